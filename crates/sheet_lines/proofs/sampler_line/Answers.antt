-- The key, then a name from where it ends. Assumes nothing.
use Rattle.sheet_lines.specs.Lines.{sampler_line_lem}
use Rattle.sheet_words.proofs.AtPosition.{handed_on}
use Rattle.sheet_lines.proofs.sampler_line.Goals as goal

pub returns-in_err-past : goal.returns-in_err-past
unfolding sampler_line_lem
returns-in_err-past c = rw (handed_on _ c.from_residual.ensures.1, ← c.in_err-past.ensures)

pub returns : goal.returns
unfolding sampler_line_lem
returns c = rw (← c.in_ok-past.ensures) c.any_name.ensures
