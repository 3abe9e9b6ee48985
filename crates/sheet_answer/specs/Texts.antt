-- Document 01, 'The sheet': the answer's lines. Definitions only.
use Rattle.std.specs.Prelude.{ℕ, List, ◌++◌, Ok, Err}
use Rattle.texts.specs.Bytes.{bytes}
use Rattle.texts.specs.Numbers.{hex_line_lem, decimal_line_lem}
use Rattle.sheet_outcome.specs.Outcomes.{Outcome}

-- 'A sheet and its whole answer': the second block
abbrev pub sample_text : ℕ → ℕ → ℕ → ℕ → List ℕ
sample_text bits u n e =
    bytes "answer=sample\n"
    ++ (hex_line_lem (bytes "bits=") bits
    ++ (decimal_line_lem (bytes "uniforms-used=") u
    ++ (decimal_line_lem (bytes "normals-used=") n
    ++ decimal_line_lem (bytes "exponentials-used=") e)))

-- 'A refusal writes `answer=refused`, `code=`, `kind=`, `at=` in decimal'
abbrev pub refused_text : ℕ → ℕ → ℕ → List ℕ
refused_text code kind at =
    bytes "answer=refused\n"
    ++ (decimal_line_lem (bytes "code=") code
    ++ (decimal_line_lem (bytes "kind=") kind
    ++ decimal_line_lem (bytes "at=") at))

unfoldable pub answer_text : Outcome → List ℕ
answer_text (Ok (bits, q)) = sample_text bits q.uniform.0 q.normal.0 q.exponential.0
answer_text (Err r) = refused_text r.number r.kind r.index
