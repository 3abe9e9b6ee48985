-- The loop goes from trial to trial: it stands at the start of one, each earlier one having been rejected. Its measure is the normals left.
use Prim.Native.Nat.{◌-◌}
use lib.ListN.{length}
use Rattle.draws.specs.Draws.{lent}
use Rattle.draws.proofs.Walks.{Going}
use Rattle.gamma.specs.Large.{large_trials}
use Rattle.gamma.proofs.Trials.{spot}
use Rattle.gamma.proofs.large.GammaLargeShape.sample_unscaled.Given as goal

abbrev pub invariant-loop-v : goal.invariant-loop-v
invariant-loop-v l = let d = lent l.lent.uniforms.now l.lent.normals.now l.lent.exponentials.now in Going (large_trials l.self d l.fn.at) (spot l.self d l.fn.at) l.p

abbrev pub decreases-loop-v : goal.decreases-loop-v
decreases-loop-v l = length l.lent.normals.now - l.p.normal.0
