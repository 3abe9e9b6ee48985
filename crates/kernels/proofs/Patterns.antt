-- The bit patterns of binary64 with the sign clear: what number each below the infinity's stands for, and which values have one of these.
use Rattle.std.proofs.Common.{◌≡◌, ℕ, zero, suc, ◌+◌, ◌-◌, ◌*◌, ◌/◌, ◌%◌, ◌^◌, ◌<◌, ◌≤◌, Bool, true, false, not, ◌&&◌, T, eqb, ltb, leb, ℤ, sym, refl, ap, ◌∙◌, subst, inl, inr, true≢false, le_of_eq, lt_of_lt_of_le, mod-eq_of_lt, zero-lt-suc, div-lt_iff_lt-mul, eq-zero-or-pos, add_comm, mul-lt-mul_of_pos_right, mul-pos, lt_of_not-le, ne_of_gt, zero-mul, mul-one, mul_right_comm, not-le_of_lt, arith, eqb→eq, ltb→lt, lt→ltb, leb→le, pow_pos}
use native.Mathlib.Decide.{dec_le}
use native.Mathlib.Nat.{div-eq_of_lt}
use lib.Dec.{not_T}
use lib.Arith.{lt→nleb, le→nltb}
use lib.Ieee.{Float, nan, inf, fin, binary64, up, down, size, odd, of_fields, of_bits, to_bits, nan_bits, is_nan, fits, lt, eq}
use lib.Ieee.Bits.{is_true, is_false, nan_bits_above, of_bits-to_bits}
use lib.Ieee.Digits.{size-le}
use lib.Ieee.Exact.{HasValue, odd_sign}
use lib.Ieee.Fits.{and_l, and_r, up_pos, down_pos, kept-lt}
use Rattle.kernels.specs.Numbers.{nought}
use Rattle.kernels.specs.Inner.{infinite, units, Digits}
use Rattle.kernels.proofs.Products.{gather}

-- the sign's weight
abbrev sign : ℕ
sign = 0x8000_0000_0000_0000

-- ---- the number of a pattern
of_fields_lem : (b : ℕ) → b < sign → of_bits binary64 b ≡ of_fields binary64 false (b / 2 ^ 52) (b % 2 ^ 52)
unfolding of_bits
of_fields_lem b h = rw (is_false (leb sign b) (lt→nleb sign b h), mod-eq_of_lt h)

subnormal : (b : ℕ) → b < 2 ^ 52 → of_bits binary64 b ≡ odd 53 false b 0 1074
unfolding of_fields
subnormal b h = of_fields_lem b (omega arith) ∙ rw (div-eq_of_lt h, mod-eq_of_lt h)

with_field : (t x : ℕ) → x < 2046 → of_fields binary64 false (suc x) t ≡ odd 53 false (2 ^ 52 + t) x 1074
unfolding of_fields
with_field t x h = rw (is_false (eqb (suc x) 2047) (not_T (eqb (suc x) 2047) (λ u. let e = eqb→eq (suc x) 2047 u in omega arith)))

normal : (b : ℕ) → 2 ^ 52 ≤ b → b < infinite → of_bits binary64 b ≡ odd 53 false (2 ^ 52 + b % 2 ^ 52) (b / 2 ^ 52 - 1) 1074
normal b h k =
    of_fields_lem b (omega arith)
    ∙ ap (λ (x : ℕ). of_fields binary64 false x (b % 2 ^ 52)) field
    ∙ with_field (b % 2 ^ 52) (b / 2 ^ 52 - 1) (omega arith)
  where
    field : b / 2 ^ 52 ≡ suc (b / 2 ^ 52 - 1)
    field = omega arith

pub units_subnormal : (b : ℕ) → b < 2 ^ 52 → units b ≡ b
units_subnormal b h = rw (is_true (ltb b (2 ^ 52)) (lt→ltb b (2 ^ 52) h))

pub units_normal : (b : ℕ) → 2 ^ 52 ≤ b → units b ≡ (2 ^ 52 + b % 2 ^ 52) * 2 ^ (b / 2 ^ 52 - 1)
units_normal b h = rw (is_false (ltb b (2 ^ 52)) (le→nltb b (2 ^ 52) h))

pub value : (b : ℕ) → b < infinite → HasValue (of_bits binary64 b) false (units b) (2 ^ 1074)
value b k = go (dec_le (2 ^ 52) b)
  where
    go : Dec (2 ^ 52 ≤ b) → HasValue (of_bits binary64 b) false (units b) (2 ^ 1074)
    go (yes h) = rw (normal b h k, units_normal b h) (odd_sign 53 false (2 ^ 52 + b % 2 ^ 52) (b / 2 ^ 52 - 1) 1074)
    go (no f) = let h = lt_of_not-le f in rw (subnormal b h, units_subnormal b h) (rw mul-one at (odd_sign 53 false b 0 1074))

pub value_of : (x : Float) → T (fits binary64 x) → to_bits binary64 x < infinite → HasValue x false (units (to_bits binary64 x)) (2 ^ 1074)
value_of x f h = rw (of_bits-to_bits binary64 x f) at (value (to_bits binary64 x) h)

-- a normal's digits
pub digits_normal : (b : ℕ) → 2 ^ 52 ≤ b → b < infinite → Digits b (b % 2 ^ 52 + 2 ^ 52) (b / 2 ^ 52 + 63)
digits_normal b h k = record {
  low = omega arith;
  high = omega arith;
  least = omega arith;
  most = omega arith;
  same = rw (units_normal b h, add_comm (2 ^ 52)) (gather (b % 2 ^ 52 + 2 ^ 52) (b / 2 ^ 52 - 1) 64 (b / 2 ^ 52 + 63) (omega arith));
}

-- ---- the pattern of a value
pub no_nan : (b : ℕ) → b < infinite → T (not (nan_bits binary64 b))
no_nan b h = let l : b < sign = omega arith in rw (nan_bits_above, mod-eq_of_lt l) (le→nltb infinite b (omega arith))

-- the code's 0.0, and its tests against it
pub nought_is : of_bits binary64 0 ≡ nought
unfolding of_bits
nought_is = refl

pub number_above : (m : ℕ) (e : ℤ) → lt nought (fin false (suc m) e) ≡ true
unfolding lt
number_above m e = rw (zero-mul (down e), mul-one) (is_true (ltb 0 (suc m * up e)) (lt→ltb 0 (suc m * up e) (mul-pos (zero-lt-suc m) (up_pos e))))

pub number_differs : (s : Bool) (m : ℕ) (e : ℤ) → eq (fin s (suc m) e) nought ≡ false
unfolding eq
number_differs s m e =
    let p : 0 < suc m * up e = mul-pos (zero-lt-suc m) (up_pos e) in
    rw (zero-mul (down e), mul-one (suc m * up e), is_false (eqb (suc m * up e) 0) (not_T (eqb (suc m * up e) 0) (λ t. ne_of_gt p (eqb→eq (suc m * up e) 0 t))))

pub zero_equals : (s : Bool) (e : ℤ) → eq (fin s zero e) nought ≡ true
unfolding eq
zero_equals true e = simp zero-mul refl
zero_equals false e = simp zero-mul refl

pub above_no_nan : (x : Float) → lt nought x ≡ true → T (not (is_nan x))
unfolding lt is_nan
above_no_nan nan e = absurd (true≢false (sym e))
above_no_nan (inf s) e = tt
above_no_nan (fin s m e) h = tt

-- a value above 0 has a pattern above 0, and a finite one a pattern below the infinity's
pub pattern_pos : (x : Float) → T (fits binary64 x) → lt nought x ≡ true → 0 < to_bits binary64 x
unfolding lt
pattern_pos x f h = elim (eq-zero-or-pos (to_bits binary64 x)) [
  | inl z ↦ absurd (true≢false (sym h ∙ ap (lt nought) (sym (of_bits-to_bits binary64 x f) ∙ ap (of_bits binary64) z ∙ nought_is)))
  | inr p ↦ p
]

-- what `fits` says of a number that is not 0
pub fits_parts : (s : Bool) (m : ℕ) (e : ℤ) → T (fits binary64 (fin s (suc m) e)) → (suc m < 2 ^ 53) × (down e ≤ 2 ^ 1074) × (suc m * up e < 2 ^ 1024 * down e)
unfolding fits
fits_parts s m e t =
    let a = eqb (suc m % 2) 1 in
    let b = ltb (suc m) (2 ^ 53) in
    let c = leb (down e) (2 ^ 1074) in
    let d = ltb (suc m * up e) (2 ^ 1024 * down e) in
    let u = and_l (a && b && c) d t in
    (ltb→lt (suc m) (2 ^ 53) (and_r a b (and_l (a && b) c u)), leb→le (down e) (2 ^ 1074) (and_r (a && b) c u), ltb→lt (suc m * up e) (2 ^ 1024 * down e) (and_r (a && b && c) d t))

pub below_overflow : (s : Bool) (m : ℕ) (e : ℤ) → T (fits binary64 (fin s m e)) → m * up e < 2 ^ 1024 * down e
below_overflow s zero e t = rw zero-mul (mul-pos (pow_pos 1024) (down_pos e))
below_overflow s (suc m) e t = (fits_parts s m e t).2

pattern_lt : (n : ℕ) → n < 2 ^ 2098 → 0 + (size n - 53) * 2 ^ 52 + n / 2 ^ (size n - 53) < infinite
pattern_lt n h = let s : size n ≤ 2098 = size-le n 2098 h in omega (arith, kept-lt 53 n)

pub finite_pattern : (m : ℕ) (e : ℤ) → T (fits binary64 (fin false m e)) → to_bits binary64 (fin false m e) < infinite
unfolding to_bits
finite_pattern m e f =
    pattern_lt (m * up e * 2 ^ 1074 / down e)
    ((div-lt_iff_lt-mul (down_pos e)).1 (lt_of_lt_of_le (mul-lt-mul_of_pos_right (below_overflow false m e f) (pow_pos 1074)) (le_of_eq (mul_right_comm (2 ^ 1024) (down e) (2 ^ 1074)))))

-- of the patterns from there up only the infinity's own stands for a value above 0
pub infinite_pattern : (x : Float) → T (fits binary64 x) → lt nought x ≡ true → infinite ≤ to_bits binary64 x → x ≡ inf false
unfolding lt
infinite_pattern nan f h k = absurd (true≢false (sym h))
infinite_pattern (inf true) f h k = absurd (true≢false (sym h))
infinite_pattern (inf false) f h k = refl
infinite_pattern (fin true m e) f h k = absurd (true≢false (sym h))
infinite_pattern (fin false m e) f h k = absurd (not-le_of_lt (finite_pattern m e f) k)

-- the two tests that leave the finite numbers above 0, and what `split` then asks
pub above_zero : (x : Float) → fits binary64 x ≡ true → eq x (inf false) ≡ false → lt nought x ≡ true → (0 < to_bits binary64 x) × (to_bits binary64 x < infinite)
unfolding lt eq
above_zero nan f h k = absurd (true≢false (sym k))
above_zero (inf true) f h k = absurd (true≢false (sym k))
above_zero (inf false) f h k = absurd (true≢false h)
above_zero (fin true m e) f h k = absurd (true≢false (sym k))
above_zero (fin false m e) f h k = let t = subst T (sym f) tt in (pattern_pos (fin false m e) t k, finite_pattern m e t)

pub is_infinite : (x : Float) → eq x (inf false) ≡ true → x ≡ inf false
unfolding eq
is_infinite nan h = absurd (true≢false (sym h))
is_infinite (inf true) h = absurd (true≢false (sym h))
is_infinite (inf false) h = refl
is_infinite (fin s m e) h = absurd (true≢false (sym h))
