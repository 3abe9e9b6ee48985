-- A byte at a time: the end, a byte that is another, or one step on. Assumes nothing.
use mathlib.Core.Path.{sym, ◌∙◌}
use Rattle.sheet_words.proofs.AtPosition.{handed_on, fixed_ended, fixed_wrong, fixed_step, fixed_done}
use Rattle.sheet_words.proofs.past.Goals as goal

pub returns-in_err-byte : goal.returns-in_err-byte
returns-in_err-byte c =
    let e = c.in_err-byte.ensures.err in
    rw (handed_on _ c.from_residual.ensures.1, e.0) (sym (c.loop-wanted.invariant ∙ fixed_ended _ _ c.loop-wanted-test.true e.1))

pub returns-then-branch-wanted : goal.returns-then-branch-wanted
returns-then-branch-wanted c =
    sym (c.loop-wanted.invariant ∙ fixed_wrong _ _ c.loop-wanted-test.true c.in_ok-byte.ensures.ok c.if-branch-wanted.true)

pub loop-wanted-preserved : goal.loop-wanted-preserved
loop-wanted-preserved c =
    c.loop-wanted.invariant ∙ fixed_step _ _ c.loop-wanted-test.true c.in_ok-byte.ensures.ok c.if-branch-wanted.false

pub returns : goal.returns
returns c = sym (c.loop-wanted.invariant ∙ fixed_done _ _ _ c.loop-wanted-test.false)
