-- exp of a number is a number with its sign clear. Between the limits k is x·INV to the nearest whole number, so that r is at most 401/1024 in size, and then
-- the series is between 1/2 and 2: what follows D_0 = 1 is smaller than 1/2. Sizes are bounded by multiples of 1/1024, and no rounding error is.
use Rattle.std.proofs.Common.{◌≡◌, ℕ, zero, suc, ◌+◌, ◌-◌, ◌*◌, ◌/◌, ◌^◌, ◌<◌, ◌≤◌, min, Bool, true, false, cond, T, eqb, ℤ, pos, negsuc, ◌-ℤ◌, neg_ℤ, sym, refl, ap, ◌∙◌, subst, inl, inr, zero-le, le_trans, le_refl, lt_of_lt_of_le, le_of_lt, lt_irrefl, mul-le-mul_right, zero-lt-suc, mul_assoc, suc-mul, mul_comm, div-lt_iff_lt-mul, eq-zero-or-pos, lt_of_mul-lt-mul_right, mul-pos, one-mul, zero-mul, div-mul-le_self, le_of_mul-le-mul_right, mul_left_comm, arith, lit<, lit≤, eqb→eq, pow_pos, pow_mono, pow-add, shl_lt}
use native.Mathlib.Nat.{div-eq_of_lt, div-le_of_le-mul, eq_of_mul-eq-mul_right}
use lib.Signed.{mag}
use lib.Ieee.{Float, nan, inf, fin, binary64, up, down, round, sub, neg, mul, le, of_int, to_signed, is_nan, fits}
use lib.Ieee.Bits.{is_true}
use lib.Ieee.Exact.{HasValue, round_exact}
use lib.Ieee.Fits.{up_pos, down_pos, and_l, add-fits}
use lib.Ieee.Positive.{num, den, mul_at, positive_of_value}
use Rattle.roots.proofs.Squares.{by_cond}
use Rattle.kernels.specs.Numbers.{◌⊕◌, ◌⊖◌, ◌⊗◌, quotient, pow2, nought, half, HI, LO, INV, finite, clear}
use Rattle.kernels.specs.Exp.{UPPER, LOWER, cut_of, factorial, D, exp_steps, exp_sum_lem, floor_half, exp_scaled_lem, exp_at_lem, exp_between_lem, exp_case, exp_of}
use Rattle.kernels.specs.Inner.{Within, Low}
use Rattle.kernels.proofs.Open.{sums}
use Rattle.kernels.proofs.Products.{exponent_le}
use Rattle.kernels.proofs.Patterns.{fits_parts}
use Rattle.kernels.proofs.Tests.{exp_by_tests}
use Rattle.kernels.proofs.Powers.{field, level}
use Rattle.kernels.proofs.Bounds.{clash, there, round_within, mul_within, add_within, sub_within, within_finite, rescaled, between}
use Rattle.kernels.proofs.Lows.{Turned, AroundOne, lower, floor, round_turned, round_low, round_clear, mul_low, add_both, add_low, sub_same, clear_le, low_pos}

-- ---- the series, for an r of at most 401/1024
d_within : (j H : ℕ) → 0 < factorial j → 2 ^ 10 ≤ H * factorial j → H < 2 ^ 53 → Within (2 ^ 10) H (D j)
unfolding D quotient
d_within j H p h k = round_within false 10 H 1 (factorial j) p (lit≤ tt) k (omega arith)

six : (n : ℕ) → 6 ≤ factorial (suc (suc (suc n)))
six zero = lit≤ tt
six (suc n) = omega (arith, six n, suc-mul (suc (suc (suc n))) (factorial (suc (suc (suc n)))))

module _ (r : Float) (h : Within (2 ^ 10) 401 r) where
  step : (p : Float) (j H U W N : ℕ) → Within (2 ^ 10) H (D j) → Within (2 ^ 10) U p → 401 * U ≤ W * 1024 → H + W ≤ N → N < 2 ^ 53 → Within (2 ^ 10) N (D j ⊕ r ⊗ p)
  step p j H U W N d u a b c = add_within 10 H (D j) W (r ⊗ p) N d (mul_within 10 401 r 10 U p 10 W h u (lit≤ tt) (omega arith) (omega arith)) (lit≤ tt) c b

  one_low : T (clear (D 0)) × Low (2 ^ 10) 1024 (D 0)
  unfolding sums
  one_low = (tt, lit≤ tt)

  -- the sum from D_3 on is at most 282/1024; with D_2, D_1 and D_0 it lies between 1/2 and 2
  last : (p : Float) → Within (2 ^ 10) 282 p → AroundOne (exp_steps 3 r p)
  unfolding exp_steps
  last p u =
      let p₂ = D 2 ⊕ r ⊗ p in
      let u₂ : Within (2 ^ 10) 623 p₂ = step p 2 512 282 111 623 (d_within 2 512 (lit< tt) (lit≤ tt) (lit< tt)) u (lit≤ tt) (lit≤ tt) (lit< tt) in
      let p₁ = D 1 ⊕ r ⊗ p₂ in
      let u₁ : Within (2 ^ 10) 1268 p₁ = step p₂ 1 1024 623 244 1268 (d_within 1 1024 (lit< tt) (lit≤ tt) (lit< tt)) u₂ (lit≤ tt) (lit≤ tt) (lit< tt) in
      let w : Within (2 ^ 10) 497 (r ⊗ p₁) = mul_within 10 401 r 10 1268 p₁ 10 497 h u₁ (lit≤ tt) (lit< tt) (lit≤ tt) in
      let o = one_low in
      let l = add_low (2 ^ 10) 1024 (D 0) 497 (r ⊗ p₁) 512 (lit< tt) (floor 10 512 (lit≤ tt) (lit< tt)) o.0 o.1 w (lit≤ tt) in
      let m : Within (2 ^ 10) 2048 (D 0 ⊕ r ⊗ p₁) = step p₁ 0 1024 1268 497 2048 (d_within 0 1024 (lit< tt) (lit≤ tt) (lit< tt)) u₁ (lit≤ tt) (lit≤ tt) (lit< tt) in
      record { turn = l.0; least = lower (2 ^ 10) 512 2 1 (D 0 ⊕ r ⊗ p₁) (lit< tt) l.1 (lit≤ tt); most = rescaled (2 ^ 10) 2048 1 2 (D 0 ⊕ r ⊗ p₁) (lit< tt) m (lit≤ tt) }

  steps_around : (n : ℕ) (p : Float) → Within (2 ^ 10) 282 p → AroundOne (exp_steps (suc (suc (suc n))) r p)
  unfolding exp_steps
  steps_around zero p u = last p u
  steps_around (suc n) p u =
      let j = suc (suc (suc n)) in
      steps_around n (D j ⊕ r ⊗ p) (step p j 171 282 111 282 (d_within j 171 (lt_of_lt_of_le (lit< tt) (six n)) (omega (arith, six n)) (lit< tt)) u (lit≤ tt) (lit≤ tt) (lit< tt))

  series_around : AroundOne (exp_steps 13 r (D 13))
  series_around = steps_around 10 (D 13) (d_within 13 282 (lit< tt) (lit≤ tt) (lit< tt))

-- ---- a number of a sign, from A/1024 to B/1024 in size
record Span (s : Bool) (A B : ℕ) (x : Float) : Type 0 where
  turn : Turned s x
  least : Low (2 ^ 10) A x
  most : Within (2 ^ 10) B x

-- INV and HI, by which x and k are multiplied; LO is small
record Factor (P : ℕ) (c : Float) : Type 0 where
  turn : Turned false c
  least : Low (2 ^ 20) P c
  most : Within (2 ^ 20) (suc P) c

factors : Factor 1512775 INV × Factor 726817 HI × Within (2 ^ 30) 1 LO
unfolding sums
factors = (record { turn = refl; least = lit≤ tt; most = lit≤ tt }, record { turn = refl; least = lit≤ tt; most = lit≤ tt }, lit≤ tt)

mul_turned : (s : Bool) (x y : Float) → T (finite x) → T (finite y) → Turned s x → Turned false y → Turned s (x ⊗ y)
unfolding mul
mul_turned s nan y f g p q = elim f [ ]
mul_turned s (inf _) y f g p q = elim f [ ]
mul_turned s (fin t m e) nan f g p q = elim g [ ]
mul_turned s (fin t m e) (inf _) f g p q = elim g [ ]
mul_turned s (fin t m e) (fin true n d) f g p q = clash q
mul_turned s (fin true m e) (fin false n d) f g p q = subst (λ (z : Bool). Turned z (round binary64 true (m * up e * (n * up d)) (down e * down d))) p (round_turned true (m * up e * (n * up d)) (down e * down d))
mul_turned s (fin false m e) (fin false n d) f g p q = subst (λ (z : Bool). Turned z (round binary64 false (m * up e * (n * up d)) (down e * down d))) p (round_turned false (m * up e * (n * up d)) (down e * down d))

mul_span : (s : Bool) (A B : ℕ) (x : Float) (P : ℕ) (c : Float) (L H : ℕ) → 0 < P → Span s A B x → Factor P c → L * 2 ^ 20 ≤ A * P → B * suc P ≤ H * 2 ^ 20 → L < 2 ^ 53 → H < 2 ^ 53 → Span s L H (x ⊗ c)
mul_span s A B x P c L H p u v l h a b = record {
  turn = mul_turned s x c (within_finite (2 ^ 10) B x u.most) (within_finite (2 ^ 20) (suc P) c v.most) u.turn v.turn;
  least = mul_low (2 ^ 10) A x (2 ^ 20) P c (2 ^ 10) L (lit< tt) (lit< tt) (floor 10 L (lit≤ tt) a) u.least v.least p (within_finite (2 ^ 20) (suc P) c v.most) (omega arith);
  most = mul_within 10 B x 20 (suc P) c 10 H u.most v.most (lit≤ tt) b (omega arith);
}

-- ---- k, the whole number that y is cut to
abbrev signed : Bool → ℕ → ℤ
signed true n = neg_ℤ (pos n)
signed false n = pos n

record CutTo (s : Bool) (L H : ℕ) (k : ℤ) : Type 0 where
  count : ℕ
  is : k ≡ signed s count
  under : 1024 * count ≤ H
  over : L < 1024 * suc count

cut_to : (s : Bool) (L H : ℕ) (z : Float) → Span s L H z → H ≤ 2 ^ 52 → CutTo s L H (to_signed 63 z)
unfolding to_signed
cut_to s L H nan u w = absurd u.most
cut_to s L H (inf t) u w = absurd u.most
cut_to s L H (fin t m e) u w =
    let q = m * up e / down e in
    let a : 1024 * q ≤ H = le_of_mul-le-mul_right (omega (arith, mul_assoc 1024 q (down e), div-mul-le_self (m * up e) (down e), u.most)) (down_pos e) in
    let b : L < 1024 * suc q = lt_of_mul-lt-mul_right (down e) (omega (arith, mul_assoc 1024 (suc q) (down e), (div-lt_iff_lt-mul (down_pos e)).0 (le_refl (suc q)), u.least)) in
    record { count = q; is = cut_is t u.turn q (omega (arith, a)); under = a; over = b }
  where
    cut_is : (t : Bool) → t ≡ s → (q : ℕ) → q ≤ 2 ^ 52 → cond t (neg_ℤ (pos (min q (2 ^ 63)))) (pos (min q (2 ^ 63 - 1))) ≡ signed s q
    cut_is true p q h = let m : min q (2 ^ 63) ≡ q = omega arith in rw m (ap (λ (b : Bool). signed b q) p)
    cut_is false p q h = let m : min q (2 ^ 63 - 1) ≡ q = omega arith in rw m (ap (λ (b : Bool). signed b q) p)

half_span : (s : Bool) (L H n : ℕ) (d : ℤ) → Span s L H (fin s n d) → H ≤ 2 ^ 51 → Span s (L + 512) (H + 512) (fin s n d ⊕ fin s 1 (negsuc 0))
half_span s L H n d u w =
    let l : L ≤ H = le_of_mul-le-mul_right (le_trans u.least u.most) (down_pos d) in
    let (t, b) = add_both s (2 ^ 10) L n d 512 1 (negsuc 0) (L + 512) (lit< tt) (floor 10 (L + 512) (lit≤ tt) (omega arith)) u.least (lit≤ tt) (le_refl (L + 512)) in
    record { turn = t; least = b; most = add_within 10 H (fin s n d) 512 (fin s 1 (negsuc 0)) (H + 512) u.most (lit≤ tt) (lit≤ tt) (omega arith) (le_refl (H + 512)) }

-- y = -0 counts as 0 or more, and k is 0 there too
small_cut : (z : Float) → Within (2 ^ 10) 512 z → to_signed 63 z ≡ pos 0
unfolding to_signed
small_cut nan u = elim u [ ]
small_cut (inf _) u = elim u [ ]
small_cut (fin t m e) u = go t (div-eq_of_lt (omega (arith, u, down_pos e)))
  where
    go : (t : Bool) → m * up e / down e ≡ 0 → cond t (neg_ℤ (pos (min (m * up e / down e) (2 ^ 63)))) (pos (min (m * up e / down e) (2 ^ 63 - 1))) ≡ pos 0
    go true h = rw h
    go false h = rw h

zero_of : (n : ℕ) (d : ℤ) → T (le nought (fin true n d)) → n * up d ≡ 0
unfolding le
zero_of n d t = sym (omega (arith, eqb→eq (0 * 2 ^ 0 * down d) (n * up d * 1) (and_l (eqb (0 * 2 ^ 0 * down d) (n * up d * 1)) (eqb (0 * 2 ^ 0 * down d) 0) t), zero-mul (down d)))

cut_at : (s : Bool) (L H n : ℕ) (d : ℤ) → Span s L H (fin s n d) → H ≤ 2 ^ 51 → CutTo s (L + 512) (H + 512) (cut_of (fin s n d))
unfolding cut_of sub neg
cut_at false L H n d u w = rw (is_true (le nought (fin false n d)) (clear_le (fin false n d) tt)) (cut_to false (L + 512) (H + 512) (fin false n d ⊕ half) (half_span false L H n d u w) (omega arith))
cut_at true L H n d u w =
    by_cond (λ (z : Float). CutTo true (L + 512) (H + 512) (to_signed 63 z)) (le nought (fin true n d)) (fin true n d ⊕ half) (fin true n d ⊖ half)
    (λ t.
    let z = zero_of n d t in
    let v : Within (2 ^ 10) 512 (fin true n d ⊕ half) = add_within 10 0 (fin true n d) 512 half 512 (omega (arith, z, zero-mul (down d))) (lit≤ tt) (lit≤ tt) (lit< tt) (lit≤ tt) in
    record { count = 0; is = small_cut (fin true n d ⊕ half) v; under = zero-le; over = nothing L (omega (arith, z, u.least)) })
    (λ _. cut_to true (L + 512) (H + 512) (fin true n d ⊖ half) (half_span true L H n d u w) (omega arith))
  where
    nothing : (L : ℕ) → L * down d ≤ 0 → L + 512 < 1024
    nothing zero h = lit< tt
    nothing (suc L) h = absurd (lt_irrefl 0 (lt_of_lt_of_le (mul-pos (zero-lt-suc L) (down_pos d)) h))

cut_span : (s : Bool) (L H : ℕ) (y : Float) → Span s L H y → H ≤ 2 ^ 51 → CutTo s (L + 512) (H + 512) (cut_of y)
cut_span s L H nan u w = absurd u.most
cut_span s L H (inf t) u w = absurd u.most
cut_span s L H (fin t n d) u w = subst (λ (z : Bool). CutTo z (L + 512) (H + 512) (cut_of (fin t n d))) u.turn (cut_at t L H n d (record { turn = refl; least = u.least; most = u.most }) w)

-- k as a float
rounded_span : (s : Bool) (n : ℕ) → n ≤ 1100 → Span s (1024 * n) (1024 * n) (round binary64 s n 1)
rounded_span s n h = record {
  turn = round_turned s n 1;
  least = round_low s (2 ^ 10) (1024 * n) n 1 (lit< tt) (lit< tt) (floor 10 (1024 * n) (lit≤ tt) (omega arith)) (omega arith);
  most = round_within s 10 (1024 * n) n 1 (lit< tt) (lit≤ tt) (omega arith) (omega arith);
}

whole_span : (s : Bool) (n : ℕ) → 0 < n → n ≤ 1100 → Span s (1024 * n) (1024 * n) (of_int binary64 (signed s n))
unfolding of_int
whole_span false n p h = rounded_span false n h
whole_span true zero p h = elim p [ ]
whole_span true (suc n) p h = rounded_span true (suc n) h

zero_within : (s : Bool) → Within (2 ^ 10) 0 (of_int binary64 (signed s 0))
unfolding of_int
zero_within true = round_within false 10 0 0 1 (lit< tt) (lit≤ tt) (lit< tt) (lit≤ tt)
zero_within false = round_within false 10 0 0 1 (lit< tt) (lit≤ tt) (lit< tt) (lit≤ tt)

-- ---- r, for an x of at most 746: x is from i to i + 1, y from y₀ to y₁ and K·HI from a₀ to a₁, in units of 1/1024
abbrev y₀ : ℕ → ℕ
y₀ i = i * 1512775 / 1048576

abbrev y₁ : ℕ → ℕ
y₁ i = suc (suc i * 1512776 / 1048576)

abbrev a₀ : ℕ → ℕ
a₀ K = K * 726817 / 1024

abbrev a₁ : ℕ → ℕ
a₁ K = suc (K * 726818 / 1024)

module _ (i K : ℕ) (I : i ≤ 763904) (under : 1024 * K ≤ y₁ i + 512) (over : y₀ i + 512 < 1024 * suc K) where
  few : K ≤ 1100
  few = omega arith

  near_above : suc i ≤ a₀ K + 400
  near_above = omega arith

  near_below : a₁ K ≤ i + 400
  near_below = omega arith

  near_none : K ≡ 0 → suc i ≤ 400
  near_none e = omega arith

-- r of x and of k, as `exp_sum_lem` has it
abbrev pub rest : Float → Float → Float
rest x k = (x ⊖ k ⊗ HI) ⊖ k ⊗ LO

module _ (s : Bool) (x : Float) (i K : ℕ) (X : Span s i (suc i) x) (I : i ≤ 763904) (under : 1024 * K ≤ y₁ i + 512) (over : y₀ i + 512 < 1024 * suc K) where
  abbrev k : Float
  k = of_int binary64 (signed s K)

  -- k, and x - k·HI
  first : Within (2 ^ 10) (1024 * K) k × Within (2 ^ 10) 400 (x ⊖ k ⊗ HI)
  first = elim (eq-zero-or-pos K) [ inl z ↦ none z | inr p ↦ some p ]
    where
      none : K ≡ 0 → Within (2 ^ 10) (1024 * K) k × Within (2 ^ 10) 400 (x ⊖ k ⊗ HI)
      none z =
          let w : Within (2 ^ 10) 0 k = rw z (zero_within s) in
          (rw z (zero_within s), sub_within 10 (suc i) x 0 (k ⊗ HI) 400 X.most (mul_within 10 0 k 20 726818 HI 10 0 w factors.1.most (lit≤ tt) (lit< tt) (lit≤ tt)) (lit≤ tt) (lit< tt) (omega (arith, near_none i K I under over z)))

      some : 0 < K → Within (2 ^ 10) (1024 * K) k × Within (2 ^ 10) 400 (x ⊖ k ⊗ HI)
      some p =
          let l = few i K I under over in
          let w = whole_span s K p l in
          let v : Span s (a₀ K) (a₁ K) (k ⊗ HI) = mul_span s (1024 * K) (1024 * K) k 726817 HI (a₀ K) (a₁ K) (lit< tt) w factors.1 (omega arith) (omega arith) (omega arith) (omega arith) in
          (w.most, sub_same s (2 ^ 10) i (suc i) x (a₀ K) (a₁ K) (k ⊗ HI) 400 (lit< tt) (there 10 400 (lit≤ tt) (lit< tt)) X.turn X.least X.most v.turn v.least v.most (near_above i K I under over) (near_below i K I under over))

  rest_within : Within (2 ^ 10) 401 (rest x k)
  rest_within =
      let (w, f) = first in
      let l = few i K I under over in
      sub_within 10 400 (x ⊖ k ⊗ HI) 1 (k ⊗ LO) 401 f (mul_within 10 (1024 * K) k 30 1 LO 10 1 w factors.2 (lit≤ tt) (lit< tt) (omega arith)) (lit≤ tt) (lit< tt) (lit≤ tt)

-- |r| is at most 401/1024, and |k| at most 1100
pub reduced : (x : Float) → Within 1 746 x → Within (2 ^ 10) 401 (rest x (of_int binary64 (cut_of (x ⊗ INV)))) × (mag (cut_of (x ⊗ INV)) ≤ 1100)
reduced nan h = elim h [ ]
reduced (inf _) h = elim h [ ]
reduced (fin s m e) h =
    let x = fin s m e in
    let i = m * up e * 2 ^ 10 / down e in
    let I : i ≤ 763904 = div-le_of_le-mul (down e) (omega (arith, h, mul_comm (down e) 763904)) in
    let X : Span s i (suc i) x = record { turn = refl; least = div-mul-le_self (m * up e * 2 ^ 10) (down e); most = le_of_lt ((div-lt_iff_lt-mul (down_pos e)).0 (le_refl (suc i))) } in
    let y : Span s (y₀ i) (y₁ i) (x ⊗ INV) = mul_span s i (suc i) x 1512775 INV (y₀ i) (y₁ i) (lit< tt) X factors.0 (omega arith) (omega arith) (omega arith) (omega arith) in
    let c = cut_span s (y₀ i) (y₁ i) (x ⊗ INV) y (omega arith) in
    rw c.is (rest_within s x i c.count X I c.under c.over, le_trans (signed_mag s c.count) (few i c.count I c.under c.over))
  where
    signed_mag : (s : Bool) (n : ℕ) → mag (signed s n) ≤ n
    signed_mag true zero = le_refl 0
    signed_mag true (suc n) = omega arith
    signed_mag false n = le_refl n

-- ---- exp
-- what the tests leave
inside : (x : Float) → is_nan x ≡ false → le UPPER x ≡ false → le x LOWER ≡ false → Within 1 746 x
inside x n h l = between LOWER x UPPER 1 746 (lit≤ tt) (lit≤ tt) n l h

-- p lies between 1/2 and 2
pub sum_around : (x : Float) → Within 1 746 x → AroundOne (exp_sum_lem x (of_int binary64 (cut_of (x ⊗ INV))))
unfolding exp_sum_lem
sum_around x h = series_around (rest x (of_int binary64 (cut_of (x ⊗ INV)))) (reduced x h).0

scaled_clear : (p : Float) (z : ℤ) → T (clear p) → T (clear (p ⊗ pow2 z))
unfolding mul
scaled_clear nan z h = elim h [ ]
scaled_clear (inf true) z h = elim h [ ]
scaled_clear (fin true m e) z h = elim h [ ]
scaled_clear (inf false) z h = tt
scaled_clear (fin false m e) z h = round_clear (m * up e * (1 * up z)) (down e * down z)

case_clear : (n h l : Bool) (x : Float) → is_nan x ≡ n → le UPPER x ≡ h → le x LOWER ≡ l → n ≡ false → T (clear (exp_case n h l x))
unfolding exp_case exp_between_lem exp_at_lem exp_scaled_lem
case_clear true h l x a b c e = clash e
case_clear false true l x a b c e = tt
case_clear false false true x a b c e = tt
case_clear false false false x a b c e =
    let k = cut_of (x ⊗ INV) in
    scaled_clear (exp_sum_lem x (of_int binary64 k) ⊗ pow2 (floor_half k)) (k -ℤ floor_half k) (scaled_clear (exp_sum_lem x (of_int binary64 k)) (floor_half k) (sum_around x (inside x a b c)).turn)

pub exp_clear : (x : Float) → is_nan x ≡ false → T (clear (exp_of x))
unfolding exp_of
exp_clear x n = case_clear (is_nan x) (le UPPER x) (le x LOWER) x refl refl refl n

-- ---- #102, 'the second scaling then rounds into the subnormal range': the first is exact, since p has 53 digits and h is small
scaling_exact : (m : ℕ) (e h : ℤ) → m < 2 ^ 53 → mag e ≤ 60 → mag h ≤ 600 → HasValue (fin false m e ⊗ pow2 h) false (m * up e * up h) (down e * down h)
unfolding mul
scaling_exact m e h s E H =
    let a = 52 + (field e - 1) in
    let b = 52 + (field h - 1) in
    let (e₀, e₁) = places e 60 E in
    let (h₀, h₁) = places h 600 H in
    let j = a + b - 1074 in
    rw one-mul
    (round_exact binary64 false (m * up e * up h) (down e * down h) m j (mul-pos (down_pos e) (down_pos h)) s (lt_of_lt_of_le (shl_lt 53 j s) (pow_mono {j = 2098} (omega arith)))
    (eq_of_mul-eq-mul_right (2 ^ 1074) (pow_pos 1074) (m * up e * up h * 2 ^ 1074) (m * 2 ^ j * (down e * down h))
    (both (up e) (up h) (2 ^ 1074) (2 ^ a) (2 ^ b) (2 ^ j) (down e) (down h) (units e (le_trans E (lit≤ tt))) (units h H) (sym (pow-add 2 a b) ∙ ap (λ (z : ℕ). 2 ^ z) (omega arith) ∙ pow-add 2 j 1074))))
  where
    places : (z : ℤ) (n : ℕ) → mag z ≤ n → (1022 ≤ field z + n) × (field z ≤ 1023 + n)
    places (pos k) n h = (omega arith, omega arith)
    places (negsuc k) n h = (omega arith, omega arith)

    units : (z : ℤ) → mag z ≤ 600 → up z * 2 ^ 1074 ≡ 2 ^ (52 + (field z - 1)) * down z
    units z l = rw (one-mul, ← pow-add) at (level z (omega arith))

    both : (x y G a b j p q : ℕ) → x * G ≡ a * p → y * G ≡ b * q → a * b ≡ j * G → m * x * y * G * G ≡ m * j * (p * q) * G
    both x y G a b j p q u v w =
        let l : m * x * y * G * G ≡ m * (x * G) * (y * G) = simp (mul_assoc, mul_comm, mul_left_comm) in
        let r : m * (a * p) * (b * q) ≡ m * (a * b) * (p * q) = simp (mul_assoc, mul_comm, mul_left_comm) in
        let f : m * (j * G) * (p * q) ≡ m * j * (p * q) * G = simp (mul_assoc, mul_comm, mul_left_comm) in
        l ∙ rw (u, v) (r ∙ rw w f)

-- p's exponent is small
around_places : (m : ℕ) (e : ℤ) → suc m < 2 ^ 53 → Low 2 1 (fin false (suc m) e) → Within 1 2 (fin false (suc m) e) → mag e ≤ 60
around_places m (pos k) h l u = le_trans (exponent_le {b = 1} (omega (arith, u, mul-le-mul_right (2 ^ k) (zero-lt-suc m)))) (lit≤ tt)
around_places m (negsuc k) h l u = let z : suc k ≤ 54 = exponent_le {b = 54} (omega (arith, l)) in omega arith

scaled_once : (p : Float) (k : ℤ) → T (fits binary64 p) → T (clear p) → Low 2 1 p → Within 1 2 p → mag k ≤ 1100 → exp_scaled_lem p k ≡ round binary64 false (num p * up (floor_half k) * up (k -ℤ floor_half k)) (den p * down (floor_half k) * down (k -ℤ floor_half k))
unfolding exp_scaled_lem
scaled_once nan k f c l u n = elim c [ ]
scaled_once (inf _) k f c l u n = elim u [ ]
scaled_once (fin true _ e) k f c l u n = elim c [ ]
scaled_once (fin false zero e) k f c l u n = absurd (lt_irrefl 0 (low_pos 2 1 false 0 e (lit< tt) l))
scaled_once (fin false (suc m) e) k f c l u n =
    let s = (fits_parts false m e f).0 in
    let h = floor_half k in
    let v = scaling_exact (suc m) e h s (around_places m e s l u) (half_few k n) in
    let q = fin false (suc m) e ⊗ pow2 h in
    rw (← one-mul (up (k -ℤ h)))
    (mul_at binary64 q (pow2 (k -ℤ h)) (suc m * up e * up h) (down e * down h) (1 * up (k -ℤ h)) (down (k -ℤ h)) (positive_of_value q (suc m * up e * up h) (down e * down h) v (mul-pos (mul-pos (zero-lt-suc m) (up_pos e)) (up_pos h))) tt
    (mul-pos (down_pos e) (down_pos h)) (down_pos (k -ℤ h)) v (refl, refl))
  where
    half_few : (k : ℤ) → mag k ≤ 1100 → mag (floor_half k) ≤ 600
    half_few (pos n) h = omega arith
    half_few (negsuc n) h = omega arith

sum_fits : (x k : Float) → T (fits binary64 (exp_sum_lem x k))
unfolding exp_sum_lem exp_steps
sum_fits x k = add-fits binary64 (D 0) _

-- what is rounded once is p·2^h·2^(k-h)
pub exp_rounds_once : (x : Float) → is_nan x ≡ false → le UPPER x ≡ false → le x LOWER ≡ false
    → let k = cut_of (x ⊗ INV) in
    let p = exp_sum_lem x (of_int binary64 k) in
    exp_of x ≡ round binary64 false (num p * up (floor_half k) * up (k -ℤ floor_half k)) (den p * down (floor_half k) * down (k -ℤ floor_half k))
unfolding exp_between_lem exp_at_lem exp_case
exp_rounds_once x n h l =
    let w = inside x n h l in
    let k = cut_of (x ⊗ INV) in
    let a = sum_around x w in
    sym (exp_by_tests x false false false n h l) ∙ scaled_once (exp_sum_lem x (of_int binary64 k)) k (sum_fits x (of_int binary64 k)) a.turn a.least a.most (reduced x w).1
