-- The answer is made in an array that has room for any, and copied from there if out has room for it.
use Prim.Native.Nat.{zero-le}
use mathlib.Core.Path.{refl, sym, ap, ◌∙◌}
use lib.Seq.{length-take-le}
use Rattle.texts.proofs.Laying.{lays_same, lays_within}
use Rattle.sheet_answer.specs.Texts.{answer_text}
use Rattle.sheet_answer.proofs.AnswerLines.{answer_within, answer_is}
use Rattle.sheet_answer.proofs.answer.Goals as goal

pub slice_bounds-text-end : goal.slice_bounds-text-end
slice_bounds-text-end c =
    answer_within _ refl c.lines-n.ensures

pub slice_bounds-put-end : goal.slice_bounds-put-end
slice_bounds-put-end c =
    sym (length-take-le _ _ (answer_within _ refl c.lines-n.ensures))

pub returns : goal.returns
returns c =
    let laid = lays_same c.put.ensures (answer_is _ refl c.lines-n.ensures ∙ ap answer_text c.outcome.ensures) in
    record { lays = laid; prefix_len = (lays_within _ laid zero-le, sym (length-take-le _ _ (lays_within _ laid zero-le))) }
