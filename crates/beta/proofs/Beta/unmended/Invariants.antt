-- The loop meets the trials in their order, so that it ends as the search does. The measure is the uniforms left.
use Prim.Native.Nat.{◌-◌}
use lib.ListN.{length}
use Rattle.draws.specs.Draws.{lent}
use Rattle.draws.proofs.Walks.{Going}
use Rattle.beta.specs.Beta.{beta_trials}
use Rattle.beta.proofs.Trials.{spot}
use Rattle.beta.proofs.Beta.unmended.Given as goal

abbrev pub invariant-loop-v : goal.invariant-loop-v
invariant-loop-v l = Going (beta_trials l.self (lent l.lent.uniforms.now l.lent.normals.now l.lent.exponentials.now) l.fn.at) (spot l.fn.at) l.p

abbrev pub decreases-loop-v : goal.decreases-loop-v
decreases-loop-v l = length l.lent.uniforms.now - l.p.uniform.0
