-- A text as the bytes that the code's byte strings have. Definitions only.
use Rattle.std.specs.Prelude.{ℕ, List, [], ◌∷◌}
use Prim.Native.Char.{code}
use Prim.Native.String.{String, [] as empty, ◌∷◌ as ◌before◌}

-- Document 01, The sheet: 'Keys and sampler names are compared as fixed bytes.'
abbrev pub bytes : String → List ℕ
bytes empty = []
bytes (c before s) = code c ∷ bytes s

-- 'each ended by a line feed'
abbrev pub feed : List ℕ
feed = bytes "\n"
