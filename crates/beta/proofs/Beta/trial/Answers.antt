-- Each way through the two reads and the tests is one of the laws of a trial.
use mathlib.Core.Path.{sym, ◌∙◌}
use Rattle.std.proofs.Common.{rules}
use Rattle.draws.proofs.Exits.{handed}
use Rattle.beta.proofs.Trials.{no_u1, no_u2, tried, mapped}
use Rattle.beta.proofs.Beta.trial.Goals as goal

pub returns-in_err-u1 : goal.returns-in_err-u1
returns-in_err-u1 c = rw (handed c.from_residual.ensures) (no_u1 _ _ _ (sym c.read.ensures ∙ c.in_err-u1.was))

pub returns-in_err-u2 : goal.returns-in_err-u2
returns-in_err-u2 c =
    rw (handed c.from_residual-in_err-u2.ensures) (no_u2 _ _ _ (sym c.read.ensures ∙ c.in_ok-u1.was) (sym c.read-2.ensures ∙ c.in_err-u2.was))

pub returns : goal.returns
returns c =
    tried _ _ _ (sym c.read.ensures ∙ c.in_ok-u1.was) (sym c.read-2.ensures ∙ c.in_ok-u2.was) c.tested.ensures (mapped _ _ _ (λ w v k. search rules) c.map.ensures.cases)
