-- The loop has stored the first i samples and stands where the next one starts: each goal is a line of the fill law.
use mathlib.Core.Path.{sym, ◌∙◌}
use native.Mathlib.Omega.{arith}
use Rattle.draws.proofs.Fills.{fill_starts, fill_goes, fill_done, fill_refused}
use Rattle.draws.proofs.distribution.fill.Goals as goal

pub loop-i-init : goal.loop-i-init
loop-i-init g c = fill_starts _ _ _

pub loop-i-preserved : goal.loop-i-preserved
loop-i-preserved g c = fill_goes c.loop-i.invariant (omega (arith, c.loop-i.invariant.long)) (sym c.sample.ensures ∙ c.in-Ok.is)

pub returns-in-Err : goal.returns-in-Err
returns-in-Err g c =
    fill_refused (sym c.placed.ensures ∙ c.if-not-placed.false) c.loop-i.invariant (omega (arith, c.loop-i.invariant.long))
    (sym c.sample.ensures ∙ c.in-Err.is) c.clear.ensures

pub returns : goal.returns
returns g c = fill_done (sym c.placed.ensures ∙ c.if-not-placed.false) c.loop-i.invariant (omega (arith, c.loop-i.invariant.long))
