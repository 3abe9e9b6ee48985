-- Each name is met, leads on to the next, or meets the end. Assumes nothing.
use mathlib.Core.Path.{sym, ◌∙◌}
use Rattle.sheet_lines.proofs.Names.{all_names, name_got, name_ended, name_wrong}
use Rattle.sheet_lines.proofs.any_name.Goals as goal

pub loop-k-init : goal.loop-k-init
loop-k-init c = all_names _

pub returns-in-Ok : goal.returns-in-Ok
returns-in-Ok c = sym (c.loop-k.invariant ∙ name_got _ _ _ c.loop-k-test.true c.name.ensures c.in-Ok.ensures)

pub returns-in-Err-Ended : goal.returns-in-Err-Ended
returns-in-Err-Ended c =
    sym (c.loop-k.invariant ∙ name_ended _ _ _ c.loop-k-test.true c.name.ensures (rw c.in-Err-Ended.field-0-is at c.in-Err-Ended.ensures))

pub loop-k-preserved : goal.loop-k-preserved
loop-k-preserved c =
    c.loop-k.invariant ∙ name_wrong _ _ _ c.loop-k-test.true c.name.ensures (rw c.in-Err-Wrong.field-0-is at c.in-Err-Wrong.ensures)
