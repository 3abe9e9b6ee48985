-- A fixed line for a sampler of one parameter, and any number for the others. Assumes nothing.
use mathlib.Core.Path.{sym, ◌∙◌}
use Rattle.sheet_lines.specs.Lines.{second_line_lem}
use Rattle.sheet_words.proofs.AtPosition.{handed_on}
use Rattle.sheet_lines.proofs.second_line.Goals as goal

pub returns-in_err-end : goal.returns-in_err-end
unfolding second_line_lem
returns-in_err-end c =
    rw (handed_on _ c.from_residual.ensures.1, sym c.lone.ensures ∙ c.if-lone.true, ← c.in_err-end.ensures)

pub returns-in_ok-end : goal.returns-in_ok-end
unfolding second_line_lem
returns-in_ok-end c = rw (sym c.lone.ensures ∙ c.if-lone.true, ← c.in_ok-end.ensures)

pub returns-else-lone : goal.returns-else-lone
unfolding second_line_lem
returns-else-lone c = rw (sym c.lone.ensures ∙ c.if-lone.false) c.word_line.ensures
