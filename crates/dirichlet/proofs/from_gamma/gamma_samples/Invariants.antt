-- The loop has drawn the components below i and stands where the next one starts; the sampler made at i is the rule's, and is never refused.
use lib.ListN.{length}
use Rattle.draws.specs.Draws.{lent}
use Rattle.dirichlet.specs.FromGamma.{gamma_at}
use Rattle.dirichlet.proofs.GammaSamples.{Drawing}
use Rattle.dirichlet.proofs.from_gamma.gamma_samples.Given as goal

abbrev pub invariant-loop-i : goal.invariant-loop-i
invariant-loop-i l =
    let alpha = l.alpha.elements.now in
    Drawing (gamma_at alpha (lent l.lent.uniforms.now l.lent.normals.now l.lent.exponentials.now)) l.initial.p (length alpha) l.i l.sum l.out l.p
