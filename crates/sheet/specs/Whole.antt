-- Document 01, The sheet: the sheet that bytes are, or the first wrong line. Definitions only.
use Rattle.std.specs.Prelude.{ℕ, List, [], ◌∷◌, cond, length, ltb}
use Rattle.sheet_lines.specs.Lines.{Counts, Through, through, stopped, Sheet, sheet_lines}

-- a sheet, or the line that refusal 20 names
pub data Parsed : Type 0 where
  right : Sheet → Parsed
  refused : ℕ → Parsed

-- 'anything after line 7 is line 8'
abbrev pub alone : Through Sheet → Parsed
alone (through s []) = right s
alone (through s (x ∷ b)) = refused 8
alone (stopped e i) = refused i

-- 'at most 4,096 bytes (more: 20, line 0)'
unfoldable pub parse_in : Counts → List ℕ → Parsed
parse_in most b = cond (ltb 4096 (length b)) (refused 0) (alone (sheet_lines most b))

-- 'lists of 0 to 64'
abbrev pub most64 : Counts
most64 = record { uniforms = 64; normals = 64; exponentials = 64 }

abbrev pub parse : List ℕ → Parsed
parse b = parse_in most64 b
