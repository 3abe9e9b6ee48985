-- A word is a NaN's where it lies above the infinity's with the sign left out: the library has that as one comparison, so the
-- code's test and the pattern's class are the same Bool. A float is NaN where it differs from itself. Assumes nothing.
use Prim.Native.Nat.{ℕ, ◌%◌, ◌≤◌, ◌<◌}
use mathlib.Core.Path.{◌≡◌, refl, sym, ◌∙◌, subst}
use mathlib.Core.Bool.{Bool, true, false, not, false≢true}
use lib.Dec.{T, lt→ltb}
use lib.Arith.{le→nltb}
use lib.Ieee.{Float, nan, inf, fin, ne, eq, binary64, of_bits, nan_bits, is_nan}
use lib.Ieee.Bits.{nan_bits_is, nan_bits_above}
use lib.Ieee.Compare.{differs_from_itself}

nan_only : (x : Float) → T (is_nan x) → nan ≡ x
unfolding is_nan
nan_only nan t = refl
nan_only (inf s) t = absurd t
nan_only (fin s m e) t = absurd t

module _ (w : ℕ) where
  pub is_nan_lem : 0x7ff0_0000_0000_0000 < w % 0x8000_0000_0000_0000 → nan ≡ of_bits binary64 w
  is_nan_lem h = nan_only (of_bits binary64 w) (subst T (sym (nan_bits_above binary64 w) ∙ nan_bits_is binary64 w) (lt→ltb _ _ h))

  pub no_nan : w % 0x8000_0000_0000_0000 ≤ 0x7ff0_0000_0000_0000 → T (not (nan_bits binary64 w))
  no_nan h = subst (λ (t : Bool). T (not t)) (sym (nan_bits_above binary64 w)) (le→nltb _ _ h)

pub differs : (x : Float) → ne x x ≡ true → nan ≡ x
differs x e = sym (differs_from_itself x (subst T (sym e) tt))

pub not_nan : (x : Float) → ne x x ≡ false → T (not (is_nan x))
unfolding ne eq is_nan
not_nan nan e = absurd (false≢true (sym e))
not_nan (inf s) e = tt
not_nan (fin s m d) e = tt
