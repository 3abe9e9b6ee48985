-- The elements passed are scaled, the others as they were.
use lib.Ieee.{Float}
use Rattle.kernels.specs.Numbers.{◌⊗◌}
use Rattle.draws.proofs.Mapping.{Mapped}
use Rattle.dirichlet.proofs.from_gamma.scale.Given as goal

abbrev pub invariant-loop-i : goal.invariant-loop-i
invariant-loop-i l = Mapped (λ (v : Float). v ⊗ l.invacc) l.initial.out l.i l.out
