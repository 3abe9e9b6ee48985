-- A number a turn, which stands where the span says. Assumes nothing.
use mathlib.Core.Path.{sym}
use Rattle.sheet.proofs.Storing.{stored_none, stored_fault, stored_one, stored_last}
use Rattle.sheet.proofs.store.Goals as goal

pub loop-k-init : goal.loop-k-init
loop-k-init c = stored_none _ _ _ _ c.requires.few

pub returns-in_default : goal.returns-in_default
returns-in_default c = stored_fault c.loop-k.invariant (sym c.in_default.ensures)

pub returns-then-s-end : goal.returns-then-s-end
returns-then-s-end c = stored_last c.loop-k.invariant _ _ c.loop-k-test.true (sym c.in-Ok.ensures) c.if-s-end.true

pub loop-k-preserved : goal.loop-k-preserved
loop-k-preserved c = stored_one c.loop-k.invariant _ _ c.loop-k-test.true (sym c.in-Ok.ensures)
