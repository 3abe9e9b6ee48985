-- x - x == 0.0 exactly for a finite x: the difference of equal numbers is a rounded 0, and with an infinity it is NaN.
use mathlib.Core.Path.{◌≡◌, refl, ◌∙◌, subst}
use mathlib.Core.Bool.{Bool, true, false, not, ◌&&◌, ◌||◌, beq}
use Prim.Native.Nat.{ℕ, zero, suc, ◌*◌, ◌<◌}
use native.Mathlib.Nat.{zero-mul, mul-pos, zero-lt-suc, le_refl, lt_irrefl, sub_self}
use borrow.Author.Tests.{le-ltb}
use lib.Dec.{eqb, lit<}
use lib.Ieee.{Float, nan, inf, fin, binary64, up, down, round, sum, add, sub, neg, eq}
use lib.Ieee.Fits.{up_pos, down_pos}
use lib.Ieee.Exact.{HasValue, round_exact}
use Rattle.kernels.specs.Numbers.{nought, finite}

-- a rounded 0 equals 0.0
zero_is : (v : Float) (s : Bool) (c : ℕ) → 0 < c → HasValue v s 0 c → eq v nought ≡ true
unfolding eq
zero_is nan s c p h = elim h [ ]
zero_is (inf _) s c p h = elim h [ ]
zero_is (fin t zero e) s c p h = level_zero t
  where
    level_zero : (t : Bool) → eqb (0 * up e * 1) (0 * 1 * down e) && (beq t false || eqb (0 * up e * 1) 0) ≡ true
    level_zero true = simp zero-mul
    level_zero false = simp zero-mul
zero_is (fin t (suc m) e) s c p h =
    absurd (lt_irrefl 0 (subst (λ (n : ℕ). 0 < n) (h.1 ∙ zero-mul (down e)) (mul-pos (mul-pos (zero-lt-suc m) (up_pos e)) p)))

rounded_zero : (s : Bool) (c : ℕ) → 0 < c → eq (round binary64 s 0 c) nought ≡ true
rounded_zero s c p = zero_is (round binary64 s 0 c) s c p (round_exact binary64 s 0 c 0 0 p (lit< tt) (lit< tt) (simp zero-mul))

zero_sum : (s : Bool) (a c : ℕ) → 0 < c → eq (sum binary64 s a (not s) a c) nought ≡ true
unfolding sum
zero_sum true a c p = simp (le-ltb a a (le_refl a), sub_self) (rounded_zero false c p)
zero_sum false a c p = simp (le-ltb a a (le_refl a), sub_self) (rounded_zero false c p)

pub finite_test : (x : Float) → eq (sub binary64 x x) nought ≡ finite x
unfolding sub add neg eq
finite_test nan = refl
finite_test (inf true) = refl
finite_test (inf false) = refl
finite_test (fin s m e) = zero_sum s (m * up e * down e) (down e * down e) (mul-pos (down_pos e) (down_pos e))
