-- The elements passed are scaled, the others as they were.
use native.Mathlib.Omega.{arith}
use Rattle.draws.proofs.Mapping.{mapped_next}
use Rattle.dirichlet.proofs.from_gamma.scale.Goals as goal

pub loop-i-preserved : goal.loop-i-preserved
loop-i-preserved c = mapped_next c.loop-i.invariant (omega arith)
