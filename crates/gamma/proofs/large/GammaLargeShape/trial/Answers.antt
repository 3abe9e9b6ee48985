-- Each way out is one of the ways a trial ends: by what is read, and the tests as the rule writes them.
use mathlib.Core.Path.{sym, ◌∙◌}
use Rattle.draws.proofs.Exits.{handed}
use Rattle.gamma.proofs.Steps.{steps}
use Rattle.gamma.proofs.Trials.{no_normal, dropped, no_uniform, squeezed, passed, failed}
use Rattle.gamma.proofs.large.GammaLargeShape.trial.Goals as goal

pub returns-in_err-x : goal.returns-in_err-x
returns-in_err-x c =
    rw (handed c.from_residual.ensures) (no_normal _ _ _ (sym c.read.ensures ∙ c.in_err-x.was))

pub returns-then-v_cbrt : goal.returns-then-v_cbrt
unfolding steps
returns-then-v_cbrt c = dropped _ _ _ (sym c.read.ensures ∙ c.in_ok-x.was) c.if-v_cbrt.true

pub returns-in_err-u : goal.returns-in_err-u
unfolding steps
returns-in_err-u c =
    rw (handed c.from_residual-in_err-u.ensures) (no_uniform _ _ _ (sym c.read.ensures ∙ c.in_ok-x.was) c.if-v_cbrt.false (sym c.read-2.ensures ∙ c.in_err-u.was))

pub returns-then-u-x_sqr : goal.returns-then-u-x_sqr
unfolding steps
returns-then-u-x_sqr c =
    squeezed _ _ _ (sym c.read.ensures ∙ c.in_ok-x.was) c.if-v_cbrt.false (sym c.read-2.ensures ∙ c.in_ok-u.was) c.if-u-x_sqr.true

pub returns-then-ln-x_sqr : goal.returns-then-ln-x_sqr
unfolding steps
returns-then-ln-x_sqr c =
    passed _ _ _ (sym c.read.ensures ∙ c.in_ok-x.was) c.if-v_cbrt.false (sym c.read-2.ensures ∙ c.in_ok-u.was) c.if-u-x_sqr.false (rw (c.ln.ensures, c.ln-2.ensures) at c.if-ln-x_sqr.true)

pub returns : goal.returns
unfolding steps
returns c =
    failed _ _ _ (sym c.read.ensures ∙ c.in_ok-x.was) c.if-v_cbrt.false (sym c.read-2.ensures ∙ c.in_ok-u.was) c.if-u-x_sqr.false (rw (c.ln.ensures, c.ln-2.ensures) at c.if-ln-x_sqr.false)
