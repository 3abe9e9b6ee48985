-- The loop has stored the first i samples and stands where the next one starts: each goal is a line of the fill law.
use lib.ListN.{length}
use Rattle.draws.specs.Draws.{lent}
use Rattle.draws.proofs.Fills.{Filling}
use Rattle.draws.proofs.distribution.fill.Given as goal

abbrev pub invariant-loop-i : goal.invariant-loop-i
invariant-loop-i g l = Filling (g.D.Distribution.drawn l.sampler (lent l.lent.uniforms.now l.lent.normals.now l.lent.exponentials.now)) l.at (length l.initial.out) l.i l.out l.p
