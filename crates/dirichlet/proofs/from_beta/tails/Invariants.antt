-- The cells from i on have their tails, each the tail after the next plus an element.
use Prim.Native.Nat.{ℕ, suc, ◌≤◌, ◌<◌}
use mathlib.Core.Path.{◌≡◌}
use lib.ListN.{length, get_or}
use lib.Ieee.{nan}
use Rattle.dirichlet.specs.FromBeta.{tail_after}
use Rattle.dirichlet.proofs.from_beta.tails.Given as goal

abbrev pub invariant-loop-i : goal.invariant-loop-i
invariant-loop-i l =
    let alpha = l.alpha.elements.now in
    (k : ℕ) → l.i ≤ k → suc k < length alpha → get_or l.out k nan ≡ tail_after alpha k
