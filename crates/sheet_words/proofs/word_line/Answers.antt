-- The key, a number from where it ends, and a line feed from where that ends. Assumes nothing.
use Rattle.sheet_words.specs.Bytes.{word_line}
use Rattle.sheet_words.proofs.AtPosition.{handed_on}
use Rattle.sheet_words.proofs.word_line.Goals as goal

pub returns-in_err-start : goal.returns-in_err-start
unfolding word_line
returns-in_err-start c = rw (handed_on _ c.from_residual.ensures.1, ← c.in_err-start.ensures)

pub returns-in_err-value : goal.returns-in_err-value
unfolding word_line
returns-in_err-value c =
    rw (handed_on _ c.from_residual-in_err-value.ensures.1, ← c.in_ok-start.ensures, ← c.in_err-value.ensures)

pub returns-in_err-end : goal.returns-in_err-end
unfolding word_line
returns-in_err-end c =
    rw (
      handed_on _ c.from_residual-in_err-end.ensures.1,
      ← c.in_ok-start.ensures,
      ← c.in_ok-value.ensures,
      ← c.in_err-end.ensures,
    )

pub returns : goal.returns
unfolding word_line
returns c = rw (← c.in_ok-start.ensures, ← c.in_ok-value.ensures, ← c.in_ok-end.ensures)
