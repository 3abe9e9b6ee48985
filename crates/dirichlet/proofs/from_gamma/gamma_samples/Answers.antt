-- The loop has drawn the components below i and stands where the next one starts; the sampler made at i is the rule's, and is never refused.
use native.Mathlib.Omega.{arith}
use mathlib.Core.Path.{sym, ◌∙◌}
use lib.Ieee.{of_bits}
use Rattle.draws.proofs.Exits.{handed}
use Rattle.dirichlet.proofs.GammaPositives.{gamma_never_refused, gamma_drawn}
use Rattle.dirichlet.proofs.GammaSamples.{drawing_starts, drawing_next, drawing_ends, drawing_stops}
use Rattle.dirichlet.proofs.from_gamma.gamma_samples.Goals as goal

pub loop-i-init : goal.loop-i-init
unfolding of_bits
loop-i-init c = drawing_starts _ _ _ c.requires

pub unwrap-g-requires : goal.unwrap-g-requires
unfolding of_bits
unwrap-g-requires c = rw (c.new.ensures ∙ gamma_never_refused _ c.args.alpha.fine _ (omega arith))

pub loop-i-preserved : goal.loop-i-preserved
unfolding of_bits
loop-i-preserved c =
    drawing_next c.loop-i.invariant (omega arith)
    (gamma_drawn _ c.args.alpha.fine _ (omega arith) _ _ (sym c.new.ensures ∙ c.unwrap-g.ensures) (sym c.in_ok-s.was ∙ c.sample.ensures))

pub returns-in_err-s : goal.returns-in_err-s
unfolding of_bits
returns-in_err-s c =
    rw (handed c.from_residual.ensures)
    (drawing_stops c.loop-i.invariant (omega arith)
    (gamma_drawn _ c.args.alpha.fine _ (omega arith) _ _ (sym c.new.ensures ∙ c.unwrap-g.ensures) (sym c.in_err-s.was ∙ c.sample.ensures)) _)

pub returns : goal.returns
returns c = drawing_ends c.loop-i.invariant (omega arith)
