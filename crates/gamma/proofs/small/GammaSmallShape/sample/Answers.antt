-- The opening uniform, then Large's search past it; a refusal of either has the positions as lent.
use mathlib.Core.Path.{sym, ◌∙◌}
use Rattle.draws.proofs.Exits.{handed}
use Rattle.gamma.specs.Small.{small_value}
use Rattle.gamma.proofs.SmallAndOne.{small_none, small_drawn}
use Rattle.gamma.proofs.small.GammaSmallShape.sample.Goals as goal

pub returns-in_err-u : goal.returns-in_err-u
returns-in_err-u c =
    rw (handed c.from_residual.ensures) (small_none _ _ _ (sym c.read.ensures ∙ c.in_err-u.was))

pub returns-in_err-a : goal.returns-in_err-a
returns-in_err-a c =
    rw (handed c.from_residual-in_err-a.ensures) (small_drawn _ _ _ (sym c.read.ensures ∙ c.in_ok-u.was) (rw c.in_err-a.was at c.sample_unscaled.ensures))

pub returns : goal.returns
unfolding small_value
returns c =
    rw c.powf-b.ensures
    (small_drawn _ _ _ (sym c.read.ensures ∙ c.in_ok-u.was) (rw c.in_ok-a.was at c.sample_unscaled.ensures))
