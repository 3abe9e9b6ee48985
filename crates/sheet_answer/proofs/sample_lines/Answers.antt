-- Five texts, each laid where the one before it ended.
use native.Mathlib.Omega.{arith}
use Rattle.sheet_answer.proofs.AnswerLines.{sample_laid}
use Rattle.sheet_answer.proofs.sample_lines.Goals as goal

pub returns : goal.returns
returns c =
    sample_laid (omega arith) _ _ _ _ c.put-a.ensures c.hex_line-b.ensures c.decimal_line-c.ensures c.decimal_line-d.ensures
    c.decimal_line.ensures
