-- Each store puts back what stood there.
use mathlib.Core.Path.{◌≡◌}
use Rattle.draws.proofs.outputs.mend.Given as goal

abbrev pub invariant-loop-i : goal.invariant-loop-i
invariant-loop-i l = l.out ≡ l.initial.out
