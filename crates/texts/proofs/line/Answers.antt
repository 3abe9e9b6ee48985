-- Where all three texts have room, laying them in turn is laying their concatenation. Assumes nothing.
use mathlib.Core.Path.{sym, ◌∙◌}
use Rattle.texts.proofs.Laying.{line_nothing, line_laid}
use Rattle.texts.proofs.line.Goals as goal

pub returns-then-not-room : goal.returns-then-not-room
returns-then-not-room c = line_nothing _ _ _ _ (sym c.room.ensures ∙ c.if-not-room.true)

pub returns : goal.returns
returns c =
    line_laid _ _ (sym c.room.ensures ∙ c.if-not-room.false) c.put-value.ensures c.put-end.ensures c.put.ensures
