-- The loop has given the components below i and stands where the next one starts; the tails of those to come are still in their cells, so the
-- sampler made at i is the rule's, and is never refused.
use Rattle.draws.specs.Draws.{lent}
use Rattle.dirichlet.specs.FromBeta.{beta_at}
use Rattle.dirichlet.proofs.BetaSamples.{Breaking}
use Rattle.dirichlet.proofs.from_beta.beta_samples.Given as goal

abbrev pub invariant-loop-i : goal.invariant-loop-i
invariant-loop-i l =
    let alpha = l.alpha.elements.now in
    Breaking alpha (beta_at alpha (lent l.lent.uniforms.now l.lent.normals.now l.lent.exponentials.now)) l.fn.at l.i l.acc l.out l.p
