-- The key, then a list from where it ends. Assumes nothing.
use mathlib.Core.Path.{sym}
use Rattle.sheet_words.specs.Bytes.{list_line_lem}
use Rattle.sheet_words.proofs.AtPosition.{handed_on}
use Rattle.sheet_words.proofs.Spanning.{keyed}
use Rattle.sheet_words.proofs.list_line.Goals as goal

pub returns-in_err-past : goal.returns-in_err-past
unfolding list_line_lem
returns-in_err-past c =
    rw (handed_on _ c.from_residual.ensures.1) (record { result_value = rw (← c.in_err-past.ensures); listed_in = tt })

pub returns : goal.returns
unfolding list_line_lem
returns c =
    let key = sym c.in_ok-past.ensures in
    record { result_value = rw key c.list.ensures.result_value; listed_in = keyed _ _ _ _ _ c.list.result key c.list.ensures.listed_in }
