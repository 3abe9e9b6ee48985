-- The word of 64 bits that stands for a float. The way back is the library's `of_bits binary64`. Definitions only.
use Rattle.std.specs.Prelude.{ℕ, Float}
use Rattle.std.specs.Float.{nan, inf, fin, binary64}
use Rattle.std.specs.Float.Ieee.{to_bits}

-- Document 01, Lent draws: 'Any NaN result, a sampler's field or an output element included, is returned as bits 7ff8000000000000.' Any other value has one pattern.
unfoldable pub word_of_lem : Float → ℕ
word_of_lem nan = 0x7ff8_0000_0000_0000
word_of_lem (inf s) = to_bits binary64 (inf s)
word_of_lem (fin s m e) = to_bits binary64 (fin s m e)
