-- The loop has given the components below i and stands where the next one starts; the tails of those to come are still in their cells, so the
-- sampler made at i is the rule's, and is never refused.
use native.Mathlib.Nat.{le_refl}
use native.Mathlib.Omega.{arith}
use mathlib.Core.Path.{sym, ◌∙◌}
use lib.Ieee.{of_bits}
use Rattle.draws.proofs.Exits.{handed}
use Rattle.dirichlet.proofs.BetaPositives.{beta_never_refused, beta_drawn}
use Rattle.dirichlet.proofs.BetaSamples.{breaking_starts, breaking_next, breaking_ends, breaking_stops}
use Rattle.dirichlet.proofs.from_beta.beta_samples.Goals as goal

pub loop-i-init : goal.loop-i-init
unfolding of_bits
loop-i-init c = breaking_starts _ _ _ _ c.requires.0 c.requires.1

pub unwrap-beta-requires : goal.unwrap-beta-requires
unwrap-beta-requires c =
    rw (rw (c.loop-i.invariant.tail_at _ (le_refl _) (omega arith)) at c.new.ensures ∙ beta_never_refused _ c.args.alpha.fine _ (omega arith))

pub loop-i-preserved : goal.loop-i-preserved
unfolding of_bits
loop-i-preserved c =
    let h = c.loop-i.invariant in
    breaking_next h (omega arith)
    (beta_drawn _ c.args.alpha.fine _ _ _ (omega arith) (h.tail_at _ (le_refl _) (omega arith)) (sym c.new.ensures ∙ c.unwrap-beta.ensures) (sym c.in_ok-beta_sample.was ∙ c.sample.ensures))

pub returns-in_err-beta_sample : goal.returns-in_err-beta_sample
unfolding of_bits
returns-in_err-beta_sample c =
    let h = c.loop-i.invariant in
    rw (handed c.from_residual.ensures)
    (breaking_stops h (omega arith)
    (beta_drawn _ c.args.alpha.fine _ _ _ (omega arith) (h.tail_at _ (le_refl _) (omega arith)) (sym c.new.ensures ∙ c.unwrap-beta.ensures) (sym c.in_err-beta_sample.was ∙ c.sample.ensures)) _)

pub returns : goal.returns
returns c =
    rw c.requires.0 (breaking_ends c.loop-i.invariant (omega arith) (omega arith))
