-- Four texts, each laid where the one before it ended.
use native.Mathlib.Omega.{arith}
use Rattle.sheet_answer.proofs.AnswerLines.{refused_laid}
use Rattle.sheet_answer.proofs.refused_lines.Goals as goal

pub returns : goal.returns
returns c =
    refused_laid (omega arith) _ _ _ c.put-a.ensures c.decimal_line-b.ensures c.decimal_line-c.ensures c.decimal_line.ensures
