-- A float that binary64 holds has one word, and a word that is no NaN's stands for one float: the library's two laws of patterns,
-- carried over to `word_of_lem`, which writes the same pattern as `to_bits` also for NaN. Assumes nothing.
use Prim.Native.Nat.{ℕ, ◌^◌, ◌<◌}
use mathlib.Core.Path.{◌≡◌, refl, ap, ◌∙◌, subst}
use mathlib.Core.Bool.{Bool, not}
use lib.Dec.{T}
use lib.Ieee.{Float, nan, inf, fin, binary64, fits, of_bits, to_bits, nan_bits}
use lib.Ieee.Bits.{of_bits-to_bits, to_bits-lt, to_bits-of_bits, nan_bits_is}
use Rattle.words.specs.Words.{word_of_lem}

pub is_pattern : (x : Float) → word_of_lem x ≡ to_bits binary64 x
unfolding word_of_lem to_bits
is_pattern nan = refl
is_pattern (inf s) = refl
is_pattern (fin s m e) = refl

-- what `word_of` makes of what `float_of` made of w
pub word_back : (w : ℕ) → w < 2 ^ 64 → T (not (nan_bits binary64 w)) → word_of_lem (of_bits binary64 w) ≡ w
word_back w h t = is_pattern (of_bits binary64 w) ∙ to_bits-of_bits binary64 w h (subst (λ (b : Bool). T (not b)) (nan_bits_is binary64 w) t)

-- what `float_of` makes of what `word_of` made of x
pub float_back : (x : Float) → T (fits binary64 x) → of_bits binary64 (word_of_lem x) ≡ x
float_back x h = ap (of_bits binary64) (is_pattern x) ∙ of_bits-to_bits binary64 x h

pub word_fits : (x : Float) → T (fits binary64 x) → word_of_lem x < 2 ^ 64
word_fits x h = rw (is_pattern x) (to_bits-lt binary64 x h)
