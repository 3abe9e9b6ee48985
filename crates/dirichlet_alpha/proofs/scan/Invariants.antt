-- What is left to scan settles what the whole of alpha does.
use mathlib.Core.Path.{◌≡◌}
use lib.ListN.{drop}
use Rattle.dirichlet_alpha.specs.Alpha.{scanned}
use Rattle.dirichlet_alpha.proofs.scan.Given as goal

abbrev pub invariant-loop-i : goal.invariant-loop-i
invariant-loop-i l = scanned l.alpha 0 ≡ scanned (drop l.i l.alpha) l.i
