-- ln's m and e from the 53 digits d of a number N·2^e: both sides of N·2^A = d·2^B have the same number of digits, which settles e, and d is N moved up to 53 digits, which settles m. A value from 1 on is so told by its digits.
use Rattle.std.proofs.Common.{◌≡◌, ℕ, zero, suc, ◌+◌, ◌-◌, ◌*◌, ◌/◌, ◌%◌, ◌^◌, ◌<◌, ◌≤◌, true, false, T, ℤ, pos, negsuc, ◌-ℤ◌, sym, refl, ap, ◌∙◌, subst, true≢false, le_trans, le_of_eq, lt_of_lt_of_le, lt_of_le_of_lt, mul-le-mul_right, zero-lt-suc, mul_comm, zero-mul, mul-one, mul_right_comm, le_of_mul-le-mul_right, arith, lit<, pow_pos, pow_mono, shl_lt}
use native.Mathlib.Nat.{eq_of_mul-eq-mul_right}
use lib.Ieee.{Float, nan, inf, fin, binary64, up, down, size, fits, of_bits, to_bits, lt}
use lib.Ieee.Bits.{of_bits-fits}
use lib.Ieee.Digits.{size-lt, size-le}
use lib.Ieee.Exact.{HasValue, round_exact}
use lib.Ieee.Fits.{down_pos, round-fits}
use Rattle.kernels.specs.Numbers.{quotient, nought}
use Rattle.kernels.specs.Ln.{significand, exponent, ln_at_lem, ln_of}
use Rattle.kernels.specs.Inner.{infinite, units, Digits}
use Rattle.kernels.proofs.Products.{gather, exponent_lt}
use Rattle.kernels.proofs.Sizes.{size_is, size_pos, size_shift}
use Rattle.kernels.proofs.Patterns.{value, value_of, fits_parts, units_normal, number_above, pattern_pos, finite_pattern}
use Rattle.kernels.proofs.Shift.{digits}
use Rattle.kernels.proofs.Values.{same_value}
use Rattle.kernels.proofs.Integers.{sub_pos, sub_same}

-- N·2^A = d·2^B
module _ (N d A B : ℕ) (some : 0 < N) (short : size N ≤ 53) (low : 2 ^ 52 ≤ d) (high : d < 2 ^ 53) (same : N * 2 ^ A ≡ d * 2 ^ B) where
  pub places_are : size N + A ≡ 53 + B
  places_are = sym (size_shift N A some) ∙ ap size same ∙ size_shift d B (lt_of_lt_of_le (lit< tt) low) ∙ ap (λ (k : ℕ). k + B) (size_is d 52 low high)

  pub moved_up : N * 2 ^ (53 - size N) ≡ d
  moved_up = eq_of_mul-eq-mul_right (2 ^ B) (pow_pos B) (N * 2 ^ (53 - size N)) d (gather N (53 - size N) B A (omega (arith, places_are)) ∙ same)

-- m: the pattern of d·2^-52
significand_is : (N d : ℕ) → 0 < N → size N ≤ 53 → 2 ^ 52 ≤ d → d < 2 ^ 53 → N * 2 ^ (53 - size N) ≡ d → of_bits binary64 (d + 0x3fe0_0000_0000_0000) ≡ significand N
unfolding quotient
significand_is N d p s l h e =
    let b = d + 0x3fe0_0000_0000_0000 in
    let j = size N - 1 in
    let n : N < 2 ^ 53 = lt_of_lt_of_le (size-lt N) (pow_mono s) in
    same_value (of_bits binary64 b) (quotient N (2 ^ j)) (d * 2 ^ 1022) (2 ^ 1074) N (2 ^ j) (of_bits-fits binary64 b) (round-fits binary64 false N (2 ^ j)) (pow_pos 1074) (pow_pos j)
    (subst (λ (u : ℕ). HasValue (of_bits binary64 b) false u (2 ^ 1074)) (units_are d l h) (value b (omega arith)))
    (round_exact binary64 false N (2 ^ j) N (1074 - j) (pow_pos j) n (lt_of_lt_of_le (shl_lt 53 (1074 - j) n) (pow_mono (room j))) (sym (gather N (1074 - j) j 1074 (back j (omega arith)))))
    (ap (λ (x : ℕ). x * 2 ^ 1022 * 2 ^ j) (sym e) ∙ ap (λ (x : ℕ). x * 2 ^ j) (gather N (53 - size N) 1022 (1075 - size N) (first (size N) s)) ∙ gather N (1075 - size N) j 1074 (second (size N) (size_pos N p) s))
  where
    units_are : (d : ℕ) → 2 ^ 52 ≤ d → d < 2 ^ 53 → units (d + 0x3fe0_0000_0000_0000) ≡ d * 2 ^ 1022
    units_are d l h =
        let b = d + 0x3fe0_0000_0000_0000 in
        let m : 2 ^ 52 + b % 2 ^ 52 ≡ d = omega arith in
        let k : b / 2 ^ 52 - 1 ≡ 1022 = omega arith in
        units_normal b (omega arith) ∙ ap (λ (x : ℕ). x * 2 ^ (b / 2 ^ 52 - 1)) m ∙ ap (λ (x : ℕ). d * 2 ^ x) k

    room : (j : ℕ) → 53 + (1074 - j) ≤ 2098
    room j = omega arith

    back : (j : ℕ) → j ≤ 52 → 1074 - j + j ≡ 1074
    back j h = omega arith

    first : (s : ℕ) → s ≤ 53 → 53 - s + 1022 ≡ 1075 - s
    first s h = omega arith

    second : (s : ℕ) → 0 < s → s ≤ 53 → 1075 - s + (s - 1) ≡ 1074
    second s p h = omega arith

-- both, for x = N·2^e whose pattern's digits are d
module _ (N : ℕ) (d p : ℕ) (some : 0 < N) (short : size N ≤ 53) (low : 2 ^ 52 ≤ d) (high : d < 2 ^ 53) where
  from_digits : (e : ℤ) → N * up e * 2 ^ 1138 ≡ d * 2 ^ p * down e → (of_bits binary64 (d + 0x3fe0_0000_0000_0000) ≡ significand N) × (pos p -ℤ pos 1086 ≡ exponent N e)
  from_digits (pos a) h =
      let same : N * 2 ^ (a + 1138) ≡ d * 2 ^ p = sym (gather N a 1138 (a + 1138) refl) ∙ h ∙ mul-one (d * 2 ^ p) in
      (significand_is N d some short low high (moved_up N d (a + 1138) p some short low high same), sub_pos p 1086 (a + (size N - 1)) (omega (arith, size_pos N some, places_are N d (a + 1138) p some short low high same)))
  from_digits (negsuc a) h =
      let same : N * 2 ^ 1138 ≡ d * 2 ^ (p + suc a) = ap (λ (x : ℕ). x * 2 ^ 1138) (sym (mul-one N)) ∙ h ∙ gather d p (suc a) (p + suc a) refl in
      (significand_is N d some short low high (moved_up N d 1138 (p + suc a) some short low high same), sub_same p 1086 (size N - 1) (suc a) (omega (arith, size_pos N some, places_are N d 1138 (p + suc a) some short low high same)))

is_short : (n : ℕ) (e : ℤ) → T (fits binary64 (fin false (suc n) e)) → size (suc n) ≤ 53
is_short n e t = size-le (suc n) 53 (fits_parts false n e t).0

in_digits : (n : ℕ) (e : ℤ) (d p : ℕ) → T (fits binary64 (fin false (suc n) e)) → to_bits binary64 (fin false (suc n) e) < infinite → Digits (to_bits binary64 (fin false (suc n) e)) d p
    → suc n * up e * 2 ^ 1138 ≡ d * 2 ^ p * down e
in_digits n e d p f b g =
    sym (gather (suc n * up e) 1074 64 1138 refl)
    ∙ ap (λ (x : ℕ). x * 2 ^ 64) (value_of (fin false (suc n) e) f b).1
    ∙ mul_right_comm (units (to_bits binary64 (fin false (suc n) e))) (down e) (2 ^ 64)
    ∙ ap (λ (x : ℕ). x * down e) g.same

-- a value from 1 on is M·2^j / 2^52, M of 53 digits
pub record Leading (n : ℕ) (e : ℤ) : Type 0 where
  pub top : ℕ
  pub places : ℕ
  pub low : 2 ^ 52 ≤ top
  pub high : top < 2 ^ 53
  pub same : n * up e * 2 ^ 52 ≡ top * 2 ^ places * down e

pub leading : (n : ℕ) (e : ℤ) → T (fits binary64 (fin false (suc n) e)) → down e ≤ suc n * up e → Leading (suc n) e
leading n e f h =
    let x = fin false (suc n) e in
    let k = finite_pattern (suc n) e f in
    let (d, p, g) = digits (to_bits binary64 x) (pattern_pos x f (number_above n e)) k in
    let s = in_digits n e d p f k g in
    let l : 2 ^ 1138 ≤ d * 2 ^ p = le_of_mul-le-mul_right (le_trans (le_of_eq (mul_comm (2 ^ 1138) (down e))) (le_trans (mul-le-mul_right (2 ^ 1138) h) (le_of_eq s))) (down_pos e) in
    let P : 1138 < 53 + p = exponent_lt (lt_of_le_of_lt l (shl_lt 53 p g.high)) in
    record {
      top = d;
      places = p - 1086;
      low = g.low;
      high = g.high;
      same = eq_of_mul-eq-mul_right (2 ^ 1086) (pow_pos 1086) (suc n * up e * 2 ^ 52) (d * 2 ^ (p - 1086) * down e)
          (gather (suc n * up e) 52 1086 1138 refl ∙ s ∙ ap (λ (z : ℕ). z * down e) (sym (gather d (p - 1086) 1086 p (omega arith))) ∙ mul_right_comm (d * 2 ^ (p - 1086)) (2 ^ 1086) (down e));
    }

pub ln_of_digits : (x : Float) (d p : ℕ) → T (fits binary64 x) → lt nought x ≡ true → to_bits binary64 x < infinite → Digits (to_bits binary64 x) d p → ln_at_lem (of_bits binary64 (d + 0x3fe0_0000_0000_0000)) (pos p -ℤ pos 1086) ≡ ln_of x
unfolding lt ln_of
ln_of_digits nan d p f l b g = absurd (true≢false (sym l))
ln_of_digits (inf true) d p f l b g = absurd (true≢false (sym l))
ln_of_digits (inf false) d p f l b g = absurd (value_of (inf false) f b)
ln_of_digits (fin true m e) d p f l b g = absurd (true≢false (sym l))
ln_of_digits (fin false zero e) d p f l b g = absurd (true≢false (sym (simp zero-mul at l)))
ln_of_digits (fin false (suc n) e) d p f l b g =
    let r = from_digits (suc n) d p (zero-lt-suc n) (is_short n e f) g.low g.high e (in_digits n e d p f b g) in
    ap (λ (m : Float). ln_at_lem m (pos p -ℤ pos 1086)) r.0 ∙ ap (ln_at_lem (significand (suc n))) r.1
