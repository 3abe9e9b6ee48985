-- 2^h by its bit pattern: the exponent's field of 2^h is h + 1023, and its digits are 0.
use Rattle.std.proofs.Common.{◌≡◌, ℕ, suc, ◌+◌, ◌-◌, ◌*◌, ◌/◌, ◌%◌, ◌^◌, ◌<◌, ◌≤◌, T, ltb, leb, ℤ, pos, negsuc, ◌+ℤ◌, sym, refl, ap, ◌∙◌, lt_of_lt_of_le, lt_of_le_of_lt, mul-le-mul_left, one-mul, mul-one, arith, lit<, le→leb, lt→ltb, pow_pos, pow_mono, pow-add}
use lib.Signed.{mag}
use lib.Pow.{pow-lt}
use lib.Ieee.{binary64, up, down, fits, of_bits}
use lib.Ieee.Bits.{of_bits-fits}
use lib.Ieee.Fits.{and_i}
use Rattle.kernels.specs.Numbers.{pow2}
use Rattle.kernels.specs.Inner.{infinite, units}
use Rattle.kernels.proofs.Products.{gather}
use Rattle.kernels.proofs.Patterns.{value, units_normal}
use Rattle.kernels.proofs.Integers.{sub_pos}
use Rattle.kernels.proofs.Values.{same_value}

-- the exponent's field
abbrev pub field : ℤ → ℕ
field (pos a) = a + 1023
field (negsuc a) = 1022 - a

pub field_is : (h : ℤ) → mag h ≤ 1000 → h +ℤ pos 1023 ≡ pos (field h)
field_is (pos a) l = refl
field_is (negsuc a) l = sub_pos 1023 (suc a) (1022 - a) (omega arith)

pub field_in : (h : ℤ) → mag h ≤ 1000 → (1 ≤ field h) × (field h < 2047)
field_in (pos a) l = (omega arith, omega arith)
field_in (negsuc a) l = (omega arith, omega arith)

pub below : (f : ℕ) → f < 2047 → f * 0x10_0000_0000_0000 < infinite
below f h = omega arith

pow2_fits : (h : ℤ) → mag h ≤ 1000 → T (fits binary64 (pow2 h))
unfolding fits
pow2_fits (pos a) l = lt→ltb (1 * 2 ^ a) (2 ^ 1024 * 1) (rw (one-mul, mul-one) (pow-lt {j = 1024} (lt_of_le_of_lt l (lit< tt))))
pow2_fits (negsuc a) l =
    and_i (leb (2 ^ suc a) (2 ^ 1074)) (ltb (1 * 1) (2 ^ 1024 * 2 ^ suc a)) (le→leb (2 ^ suc a) (2 ^ 1074) (pow_mono {j = 1074} (lt_of_le_of_lt l (lit< tt))))
    (lt→ltb (1 * 1) (2 ^ 1024 * 2 ^ suc a) (lt_of_lt_of_le (lit< tt) (mul-le-mul_left (2 ^ 1024) (pow_pos (suc a)))))

-- 2^h is 2^52·2^(field - 1) units
pub level : (h : ℤ) → mag h ≤ 1000 → 1 * up h * 2 ^ 1074 ≡ 2 ^ 52 * 2 ^ (field h - 1) * down h
level (pos a) l =
    ap (λ (x : ℕ). x * 2 ^ 1074) (one-mul (2 ^ a)) ∙ sym (pow-add 2 a 1074) ∙ ap (λ (k : ℕ). 2 ^ k) (at a) ∙ pow-add 2 52 (a + 1023 - 1) ∙ sym (mul-one (2 ^ 52 * 2 ^ (a + 1023 - 1)))
  where
    at : (a : ℕ) → a + 1074 ≡ 52 + (a + 1023 - 1)
    at a = omega arith
level (negsuc a) l = ap (λ (k : ℕ). 2 ^ k) (at a l) ∙ pow-add 2 52 (1022 - a - 1 + suc a) ∙ sym (gather' (1022 - a - 1))
  where
    at : (a : ℕ) → a ≤ 1000 → 1074 ≡ 52 + (1022 - a - 1 + suc a)
    at a l = omega arith

    gather' : (k : ℕ) → 2 ^ 52 * 2 ^ k * 2 ^ suc a ≡ 2 ^ 52 * 2 ^ (k + suc a)
    gather' k = gather (2 ^ 52) k (suc a) (k + suc a) refl

pub pow2_is : (h : ℤ) → mag h ≤ 1000 → of_bits binary64 (field h * 0x10_0000_0000_0000) ≡ pow2 h
pow2_is h l =
    let b = field h * 0x10_0000_0000_0000 in
    let r = field_in h l in
    same_value (of_bits binary64 b) (pow2 h) (units b) (2 ^ 1074) (units b) (2 ^ 1074) (of_bits-fits binary64 b) (pow2_fits h l) (pow_pos 1074) (pow_pos 1074) (value b (below (field h) r.1))
    (refl, level h l ∙ ap (λ (u : ℕ). u * down h) (sym (units_normal b (above (field h) r.0) ∙ ap (λ (d : ℕ). d * 2 ^ (b / 2 ^ 52 - 1)) (digits (field h)) ∙ ap (λ (k : ℕ). 2 ^ 52 * 2 ^ (k - 1)) (places (field h))))) refl
  where
    above : (f : ℕ) → 1 ≤ f → 2 ^ 52 ≤ f * 0x10_0000_0000_0000
    above f h = omega arith

    digits : (f : ℕ) → 2 ^ 52 + f * 0x10_0000_0000_0000 % 2 ^ 52 ≡ 2 ^ 52
    digits f = omega arith

    places : (f : ℕ) → f * 0x10_0000_0000_0000 / 2 ^ 52 ≡ f
    places f = omega arith
