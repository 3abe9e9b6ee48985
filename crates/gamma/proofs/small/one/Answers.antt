-- One's only trial is the exponential read.
use mathlib.Core.Path.{sym, ◌∙◌}
use Rattle.draws.proofs.Exits.{handed}
use Rattle.gamma.proofs.SmallAndOne.{one_none, one_drawn}
use Rattle.gamma.proofs.small.one.Goals as goal

pub returns-in_err-e : goal.returns-in_err-e
returns-in_err-e c =
    rw (handed c.from_residual.ensures) (one_none _ _ _ (sym c.read.ensures ∙ c.in_err-e.was))

pub returns : goal.returns
returns c = one_drawn _ _ _ (sym c.read.ensures ∙ c.in_ok-e.was)
