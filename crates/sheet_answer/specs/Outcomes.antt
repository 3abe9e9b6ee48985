-- Document 01, 'The sheet': the outcome of what was read. Definitions only.
use Rattle.std.specs.Prelude.{ℕ, List, map, Err, Float}
use Rattle.std.specs.Float.{binary64}
use Rattle.std.specs.Float.Ieee.{of_bits}
use Rattle.draws.specs.Draws.{Lent, lent}
use Rattle.draws.specs.Refusals.{numbered}
use Rattle.sheet_lines.specs.Lines.{Sheet, Lists}
use Rattle.sheet.specs.Whole.{Parsed, right, refused}
use Rattle.sheet_outcome.specs.Outcomes.{Outcome, sampled_of}

-- a sheet's numbers are words of 64 bits
abbrev pub float : ℕ → Float
float w = of_bits binary64 w

abbrev pub floats : List ℕ → List Float
floats ws = map float ws

abbrev pub lent_by : Lists → Lent
lent_by l = lent (floats l.uniforms) (floats l.normals) (floats l.exponentials)

-- the sampler that line 2 names, at the parameters of lines 3 and 4, over the lists of lines 5 to 7
unfoldable pub sheet_outcome : Sheet → Outcome
sheet_outcome s = sampled_of s.head.sampler (float s.head.a) (float s.head.b) (lent_by s.lists)

-- 'Code 20 puts its line in `at`.'
abbrev pub outcome_of_lem : Parsed → Outcome
outcome_of_lem (right s) = sheet_outcome s
outcome_of_lem (refused i) = Err (numbered 20 i)
