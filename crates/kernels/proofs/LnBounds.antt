-- ln of a finite number above 0 is finite: m lies from 1/2 to 2 and e is small, so that each step of the rule stays below a power of two far from the largest.
use Rattle.std.proofs.Common.{◌≡◌, ℕ, zero, suc, ◌+◌, ◌-◌, ◌*◌, ◌^◌, ◌<◌, ◌≤◌, Bool, true, false, T, ℤ, pos, negsuc, ◌+ℤ◌, sym, true≢false, le_trans, le_of_eq, lt_of_le_of_lt, mul-le-mul_right, zero-lt-suc, one-mul, zero-mul, mul-one, arith, lit<, lit≤, pow_pos}
use native.Mathlib.Nat.{pow-succ'}
use lib.Signed.{mag}
use lib.Ieee.{Float, nan, inf, fin, binary64, up, down, size, of_int, lt, fits}
use lib.Ieee.Digits.{size-lt, size_reaches, size-le}
use lib.Ieee.Bits.{is_true}
use Rattle.kernels.specs.Numbers.{◌⊕◌, ◌⊖◌, ◌⊗◌, ◌⊘◌, quotient, nought, one, two, half, HI, LO, ROOT, finite, clear}
use Rattle.kernels.specs.Ln.{C, ln_steps, ln_sum_lem, ln_halved, ln_at_lem, ln_of, significand, exponent}
use Rattle.kernels.specs.Inner.{Low}
use Rattle.kernels.proofs.Open.{sums}
use Rattle.kernels.proofs.Sizes.{size_pos}
use Rattle.kernels.proofs.Products.{exponent_lt, exponent_le}
use Rattle.kernels.proofs.Patterns.{fits_parts}
use Rattle.kernels.proofs.Integers.{sub_near, next_near}
use Rattle.kernels.proofs.Bounds.{Under, power, round_within, within_finite, wider, mul_under, add_under, sub_under}
use Rattle.kernels.proofs.Lows.{AroundOne, lower, floor, round_clear, round_low, mul_low, mul_clear, add_more, div_below}

-- ---- the series
c_under : (k : ℕ) → Under 0 (C k)
unfolding C quotient
c_under k = round_within false 0 1 1 (2 * k + 1) (omega arith) (lit≤ tt) (lit< tt) (omega arith)

hi_lo_under : Under 0 HI × Under 0 LO
unfolding sums
hi_lo_under = (lit≤ tt, lit≤ tt)

-- each step is at most 2^7 times the one before it
steps_under : (n i k : ℕ) (q p : Float) → i + 7 * n ≤ k → k ≤ 1000 → Under 6 q → Under i p → Under k (ln_steps n q p)
unfolding ln_steps
steps_under zero i k q p h l u v = wider i k p (omega arith) v
steps_under (suc n) i k q p h l u v =
    steps_under n (suc (6 + i)) k q (C (suc n) ⊕ q ⊗ p) (omega arith) l u
    (add_under (6 + i) (C (suc n)) (q ⊗ p) (omega arith) (wider 0 (6 + i) (C (suc n)) (omega arith) (c_under (suc n))) (mul_under 6 i q p (omega arith) u v))

sum_under : (m e : Float) → AroundOne m → Under 12 e → Under 76 (ln_sum_lem m e)
unfolding ln_sum_lem
sum_under m e r v =
    let a : Under 2 (m ⊖ one) = sub_under 1 m one (lit< tt) r.most (lit≤ tt) in
    let b : Low 2 1 (m ⊕ one) = (add_more 2 1 m one (lit< tt) (floor 1 1 (lit≤ tt) (lit< tt)) r.turn tt r.least).1 in
    let s = (m ⊖ one) ⊘ (m ⊕ one) in
    let S : Under 3 s = div_below 1 4 (m ⊖ one) 2 1 (m ⊕ one) 1 8 (lit< tt) (lit< tt) (power 3 (lit≤ tt)) a b (lit< tt) (lit≤ tt) in
    let q = s ⊗ s in
    let Q : Under 6 q = mul_under 3 3 s s (lit≤ tt) S S in
    let p = ln_steps 9 q (C 10) in
    let P : Under 63 p = steps_under 9 0 63 q (C 10) (lit≤ tt) (lit≤ tt) Q (c_under 10) in
    let x : Under 72 (s ⊗ (q ⊗ p)) = mul_under 3 69 s (q ⊗ p) (lit≤ tt) S (mul_under 6 63 q p (lit≤ tt) Q P) in
    let t = s ⊕ s ⊗ (q ⊗ p) in
    let y : Under 73 t = add_under 72 s (s ⊗ (q ⊗ p)) (lit< tt) (wider 3 72 s (lit≤ tt) S) x in
    let z : Under 75 (two ⊗ t ⊕ e ⊗ LO) = add_under 74 (two ⊗ t) (e ⊗ LO) (lit< tt) (mul_under 1 73 two t (lit≤ tt) (lit≤ tt) y) (wider 12 74 (e ⊗ LO) (lit≤ tt) (mul_under 12 0 e LO (lit≤ tt) v hi_lo_under.1)) in
    add_under 75 (e ⊗ HI) (two ⊗ t ⊕ e ⊗ LO) (lit< tt) (wider 12 75 (e ⊗ HI) (lit≤ tt) (mul_under 12 0 e HI (lit≤ tt) v hi_lo_under.0)) z

-- ---- its m and e
integer_under : (z : ℤ) → mag z ≤ 4095 → Under 12 (of_int binary64 z)
unfolding of_int
integer_under (pos n) h = round_within false 0 4096 n 1 (lit< tt) (lit≤ tt) (lit< tt) (omega arith)
integer_under (negsuc n) h = round_within true 0 4096 (suc n) 1 (lit< tt) (lit≤ tt) (lit< tt) (omega arith)

-- from 1 to 2
significand_near : (n : ℕ) → 0 < n → T (clear (significand n)) × Low 1 1 (significand n) × Under 1 (significand n)
unfolding quotient
significand_near n h =
    let j = size n - 1 in
    let s : size n ≡ suc j = omega (arith, size_pos n h) in
    let l : 2 ^ j ≤ n = size_reaches n j (omega (arith, s)) in
    let g : n < 2 * 2 ^ j = rw (s, pow-succ') at (size-lt n) in
    (round_clear n (2 ^ j), round_low false 1 1 n (2 ^ j) (pow_pos j) (lit< tt) (floor 0 1 (lit≤ tt) (lit< tt)) (omega arith), round_within false 0 2 n (2 ^ j) (pow_pos j) (lit≤ tt) (lit< tt) (omega arith))

exponent_near : (n : ℕ) (e : ℤ) → T (fits binary64 (fin false (suc n) e)) → mag (exponent (suc n) e) ≤ 4000
exponent_near n e f = let (s, h, l) = fits_parts false n e f in at e h l (size-le (suc n) 53 s)
  where
    at : (e : ℤ) → down e ≤ 2 ^ 1074 → suc n * up e < 2 ^ 1024 * down e → size (suc n) ≤ 53 → mag (exponent (suc n) e) ≤ 4000
    at (pos k) h l s = let z : k < 1024 = exponent_lt (lt_of_le_of_lt (le_trans (le_of_eq (sym (one-mul (2 ^ k)))) (mul-le-mul_right (2 ^ k) (zero-lt-suc n))) (rw mul-one at l)) in omega arith
    at (negsuc k) h l s = let z : suc k ≤ 1074 = exponent_le h in sub_near (size (suc n) - 1) (suc k) 4000 (omega arith) (omega arith)

halved_finite : (t : Bool) (m : Float) (e : ℤ) → T (clear m) × Low 1 1 m × Under 1 m → mag e ≤ 4000 → T (finite (ln_halved t m e))
unfolding ln_halved
halved_finite true m e (c, l, u) h =
    let v : Under 12 (of_int binary64 (e +ℤ pos 1)) = integer_under (e +ℤ pos 1) (omega (arith, next_near e)) in
    let r : AroundOne (m ⊗ half) = record {
      turn = (mul_clear 1 1 m half c (within_finite 1 2 m u) (lit< tt) l tt).0;
      least = mul_low 1 1 m 2 1 half 2 1 (lit< tt) (lit< tt) (floor 1 1 (lit≤ tt) (lit< tt)) l (lit≤ tt) (lit< tt) tt (lit≤ tt);
      most = mul_under 1 0 m half (lit≤ tt) u (lit≤ tt);
    } in
    within_finite 1 (2 ^ 76) (ln_sum_lem (m ⊗ half) (of_int binary64 (e +ℤ pos 1))) (sum_under (m ⊗ half) (of_int binary64 (e +ℤ pos 1)) r v)
halved_finite false m e (c, l, u) h = within_finite 1 (2 ^ 76) (ln_sum_lem m (of_int binary64 e)) (sum_under m (of_int binary64 e) (record { turn = c; least = lower 1 1 2 1 m (lit< tt) l (lit≤ tt); most = u }) (integer_under e (omega arith)))

-- 'ln is finite on finite positive numbers', subnormal ones among them
pub ln_finite : (x : Float) → T (fits binary64 x) → finite x ≡ true → lt nought x ≡ true → finite (ln_of x) ≡ true
unfolding ln_of ln_at_lem lt
ln_finite nan f h l = absurd (true≢false (sym h))
ln_finite (inf s) f h l = absurd (true≢false (sym h))
ln_finite (fin true n e) f h l = absurd (true≢false (sym l))
ln_finite (fin false zero e) f h l = absurd (true≢false (sym (simp zero-mul at l)))
ln_finite (fin false (suc n) e) f h l =
    let m = significand (suc n) in
    let k = exponent (suc n) e in
    is_true (finite (ln_at_lem m k)) (halved_finite (lt ROOT m) m k (significand_near (suc n) (zero-lt-suc n)) (exponent_near n e f))
