-- The field beta of a sampler made of normal parameters whose sum is finite is finite. Kind BC: 1/b is at most 2^1022. Kind BB, 1 < a <= b: with b = M·2^j / 2^52, M of
-- 53 digits, alpha is at most 2·b = M·2^j / 2^51, while 2·a·b is at least the next value, (M+1)·2^j / 2^51, or infinite. So the denominator is at least 2^j / 2^51, the
-- quotient is at most M, and its root is a number.
use mathlib.Core.Path.{◌≡◌, refl, sym, ap, ◌∙◌, subst}
use mathlib.Core.Bool.{true, false}
use mathlib.Core.Logic.{inl, inr}
use Prim.Native.Nat.{ℕ, zero, suc, ◌+◌, ◌*◌, ◌^◌, ◌≤◌, ◌<◌}
use native.Mathlib.Decide.{dec_le}
use native.Mathlib.Nat.{le_refl, le_trans, le_of_eq, le_of_lt, lt_of_lt_of_le, lt_of_le_of_lt, lt_of_not-le, eq-or-lt_of_le, mul_comm, mul_assoc, mul_right_comm, mul-one, one-mul, mul-pos, mul-le-mul_right, mul-lt-mul_of_pos_right, le_of_mul-le-mul_right, lt_of_mul-lt-mul_right, zero-lt-suc, suc-mul, le-suc, le_of_suc-le-suc, lt_trans}
use native.Mathlib.Omega.{arith}
use lib.Dec.{T, lit≤, lit<}
use lib.IntN.{ℤ, pos, negsuc}
use lib.Pow.{pow_pos, pow_mono, pow-add, shl_lt}
use lib.Ieee.{Float, nan, inf, fin, binary64, up, down, fits, add, sub, neg, div}
use lib.Ieee.Exact.{round_exact}
use lib.Ieee.Fits.{down_pos, add-fits, mul-fits}
use lib.Ieee.Positive.{positive}
use Rattle.kernels.specs.Numbers.{◌⊕◌, ◌⊖◌, ◌⊗◌, ◌⊘◌, one, two, finite, clear}
use Rattle.kernels.specs.Inner.{Within, Low}
use Rattle.kernels.specs.Sqrt.{sqrt_of}
use Rattle.kernels.specs.SquareRoot.{SquareRoot}
use Rattle.kernels.proofs.Products.{gather, exponent_lt}
use Rattle.kernels.proofs.Patterns.{fits_parts, below_overflow}
use Rattle.kernels.proofs.Values.{itself}
use Rattle.kernels.proofs.Significands.{Leading, leading}
use Rattle.kernels.proofs.Bounds.{Value, there, power, round_below, within_finite, rescaled}
use Rattle.kernels.proofs.Lows.{Floor, floor, value_floor, over_floor, round_clear, mul_low, mul_clear, add_same, add_both, sub_low, sub_clear_below, div_below, div_clear}
use Rattle.kernels.proofs.SqrtLaws.{sqrt_is_root}

-- ---- kind BC
pub inverse_finite : (b : Float) → Low (2 ^ 1022) 1 b → T (finite (one ⊘ b))
inverse_finite b l = within_finite 1 (2 ^ 1022) (one ⊘ b) (div_below 1 1 one (2 ^ 1022) 1 b 1 (2 ^ 1022) (lit< tt) (lit< tt) (power 1022 (lit≤ tt)) (lit≤ tt) l (lit< tt) (lit≤ tt))

-- ---- kind BB: what is under the root, and the root
-- q·2^j / 2^51 is a value
grid : (q j : ℕ) → q < 2 ^ 53 → q * 2 ^ j < 2 ^ 1075 → Value (2 ^ 51) (q * 2 ^ j)
grid q j h k =
    round_exact binary64 false (q * 2 ^ j) (2 ^ 51) q (j + 1023) (pow_pos 51) h (rw (← gather q j 1023 (j + 1023) refl) (shl_lt 1075 1023 k))
    (gather q j 1074 (j + 1074) refl ∙ sym (gather q (j + 1023) 51 (j + 1074) (omega arith)))

-- finite, with the sign clear
abbrev pub Fair : Float → Type 0
Fair x = T (clear x) × T (finite x)

-- alpha - 2, for an alpha from 2 on: no larger than alpha
numerator : (h : ℕ) (g : ℤ) → T (fits binary64 (fin false h g)) → Low 1 2 (fin false h g) → T (clear (fin false h g ⊖ two)) × Within (down g) (h * up g) (fin false h g ⊖ two)
numerator h g f l = (
  (sub_low 1 2 (fin false h g) 2 two 0 (lit< tt) (floor 0 0 (lit≤ tt) (lit< tt)) tt l (lit≤ tt) (lit≤ tt)).0,
  sub_clear_below (down g) (h * up g) (fin false h g) two (down_pos g) (itself h g f) tt tt (le_refl (h * up g * down g)) (omega (arith, l)),
)

infinite_under : (x : Float) (h : ℕ) (g : ℤ) → T (clear x) → T (finite x) → Fair (x ⊘ (inf false ⊖ fin false h g))
unfolding sub neg add div
infinite_under nan h g p q = elim p [ ]
infinite_under (inf _) h g p q = elim q [ ]
infinite_under (fin true k c) h g p q = elim p [ ]
infinite_under (fin false k c) h g p q = (tt, tt)

module _ (M j : ℕ) (low : 2 ^ 52 ≤ M) (high : M < 2 ^ 53) where
  -- the value next above 2·b, or what overflows
  next : Floor (2 ^ 51) (suc M * 2 ^ j)
  next = by_size (dec_le (2 ^ 1075) (suc M * 2 ^ j))
    where
      by_size : Dec (2 ^ 1075 ≤ suc M * 2 ^ j) → Floor (2 ^ 51) (suc M * 2 ^ j)
      by_size (yes l) = over_floor (2 ^ 51) (suc M * 2 ^ j) (pow_pos 51) l
      by_size (no f) = value_floor (2 ^ 51) (suc M * 2 ^ j) (elim (eq-or-lt_of_le high) [ inl e ↦ last e (lt_of_not-le f) | inr l ↦ grid (suc M) j l (lt_of_not-le f) ])
        where
          last : suc M ≡ 2 ^ 53 → suc M * 2 ^ j < 2 ^ 1075 → Value (2 ^ 51) (suc M * 2 ^ j)
          last e l =
              let q : suc M * 2 ^ j ≡ 1 * 2 ^ (53 + j) = rw (e, one-mul) (sym (pow-add 2 53 j)) in
              rw q (grid 1 (53 + j) (lit< tt) (rw q at l))

  -- by alpha and t = 2·a·b
  quotient_fair : (al t : Float) → T (fits binary64 al) → T (fits binary64 t) → T (clear al) → T (finite al) → Low 1 2 al → (M * 2 ^ j < 2 ^ 1075 → Within (2 ^ 51) (M * 2 ^ j) al) → T (clear t) → Low (2 ^ 51) (suc M * 2 ^ j) t
      → Fair ((al ⊖ two) ⊘ (t ⊖ al))
  quotient_fair nan t af tf c p l u q v = elim c [ ]
  quotient_fair (inf _) t af tf c p l u q v = elim p [ ]
  quotient_fair (fin false h g) nan af tf c p l u q v = elim q [ ]
  quotient_fair (fin false h g) (inf true) af tf c p l u q v = elim q [ ]
  quotient_fair (fin false h g) (fin true k f) af tf c p l u q v = elim q [ ]
  quotient_fair (fin true h g) t af tf c p l u q v = elim c [ ]
  quotient_fair (fin false h g) (inf false) af tf c p l u q v = let (c, w) = numerator h g af l in infinite_under (fin false h g ⊖ two) h g c (within_finite (down g) (h * up g) (fin false h g ⊖ two) w)
  quotient_fair (fin false h g) (fin false k f) af tf c p l u q v =
      let fine : suc M * 2 ^ j < 2 ^ 1075 = lt_of_mul-lt-mul_right (down f) (lt_of_le_of_lt v (lt_of_lt_of_le (mul-lt-mul_of_pos_right (below_overflow false k f tf) (pow_pos 51)) (le_of_eq (mul_right_comm (2 ^ 1024) (down f) (2 ^ 51))))) in
      let w : Within (2 ^ 51) (M * 2 ^ j) (fin false h g) = u (lt_of_le_of_lt (mul-le-mul_right (2 ^ j) (le-suc M)) fine) in
      let one_place : 1 * 2 ^ j < 2 ^ 1075 = lt_of_le_of_lt (mul-le-mul_right (2 ^ j) (zero-lt-suc M)) fine in
      let (nc, nw) = numerator h g af l in
      let N = fin false h g ⊖ two in
      let D = fin false k f ⊖ fin false h g in
      let (dc, dl) = sub_low (2 ^ 51) (suc M * 2 ^ j) (fin false k f) (M * 2 ^ j) (fin false h g) (1 * 2 ^ j) (pow_pos 51) (value_floor (2 ^ 51) (1 * 2 ^ j) (grid 1 j (lit< tt) one_place)) tt v w (omega (arith, suc-mul M (2 ^ j))) in
      let B : 0 < 1 * 2 ^ j = mul-pos (lit< tt) (pow_pos j) in (
        div_clear (2 ^ 51) (1 * 2 ^ j) N D nc (within_finite (down g) (h * up g) N nw) dc B dl,
        within_finite 1 M (N ⊘ D) (div_below (2 ^ 51) (M * 2 ^ j) N (2 ^ 51) (1 * 2 ^ j) D 1 M (mul-pos (pow_pos 51) B) (lit< tt) (there 0 M (lit≤ tt) high) (rescaled (down g) (h * up g) (2 ^ 51) (M * 2 ^ j) N (down_pos g) nw w) dl B
            (rw (mul-one, one-mul, mul_comm (2 ^ 51)) (le_of_eq (mul_assoc M (2 ^ j) (2 ^ 51))))),
      )

-- a is 1 + 2^-52 at least
above_one : (m : ℕ) (e : ℤ) → m < 2 ^ 53 → down e < m * up e → Low (2 ^ 52) (2 ^ 52 + 1) (fin false m e)
above_one m (pos k) h l = omega arith
above_one m (negsuc k) h l = let p : 2 ^ suc k ≤ 2 ^ 52 = pow_mono (le_of_suc-le-suc (exponent_lt {a = suc k} {b = 53} (lt_trans l (rw mul-one h)))) in omega (arith, p)

module _ (m : ℕ) (e : ℤ) (n : ℕ) (d : ℤ) (a-fits : T (fits binary64 (fin false (suc m) e))) (b-fits : T (fits binary64 (fin false (suc n) d)))
    (above : down e < suc m * up e) (order : suc m * up e * down d ≤ suc n * up d * down e) (whole : T (finite (fin false (suc m) e ⊕ fin false (suc n) d))) where
  abbrev a : Float
  a = fin false (suc m) e

  abbrev b : Float
  b = fin false (suc n) d

  b_above : down d ≤ suc n * up d
  b_above = le_of_mul-le-mul_right (le_trans (le_of_eq (mul_comm (down d) (down e))) (le_trans (mul-le-mul_right (down d) (le_of_lt above)) order)) (down_pos e)

  digits : Leading (suc n) d
  digits = leading n d b-fits b_above

  -- alpha is at most 2·b
  sum_within : digits.top * 2 ^ digits.places < 2 ^ 1075 → Within (2 ^ 51) (digits.top * 2 ^ digits.places) (a ⊕ b)
  sum_within fine =
      let B = digits.top * 2 ^ digits.places in
      let c = down e * down d in
      let s : suc n * up d * down e * 2 ^ 52 ≡ B * c =
      mul_right_comm (suc n * up d) (down e) (2 ^ 52) ∙ ap (λ (z : ℕ). z * down e) digits.same ∙ mul_assoc B (down d) (down e) ∙ ap (λ (z : ℕ). B * z) (mul_comm (down d) (down e)) in
      rw (add_same false (suc m) e (suc n) d)
      (round_below false (2 ^ 51) B (suc m * up e * down d + suc n * up d * down e) c (mul-pos (down_pos e) (down_pos d)) (pow_pos 51) (grid digits.top digits.places digits.high fine) (omega (arith, order, s)))

  pub bb_fair : Fair ((a ⊕ b ⊖ two) ⊘ (two ⊗ a ⊗ b ⊖ (a ⊕ b)))
  bb_fair =
      let M = digits.top in
      let j = digits.places in
      let twice-low : Low (2 ^ 51) (2 ^ 52 + 1) (two ⊗ a) = mul_low 1 2 two (2 ^ 52) (2 ^ 52 + 1) a (2 ^ 51) (2 ^ 52 + 1) (lit< tt) (lit< tt) (floor 51 (2 ^ 52 + 1) (lit≤ tt) (lit< tt)) (lit≤ tt) (above_one (suc m) e (fits_parts false m e a-fits).0 above) (lit< tt) tt (lit≤ tt) in
      let b-low : Low (2 ^ 52) (M * 2 ^ j) b = le_of_eq (sym digits.same) in
      let p : 0 < M * 2 ^ j = mul-pos (lt_of_lt_of_le (lit< tt) digits.low) (pow_pos j) in
      let t-low : Low (2 ^ 51) (suc M * 2 ^ j) (two ⊗ a ⊗ b) = mul_low (2 ^ 51) (2 ^ 52 + 1) (two ⊗ a) (2 ^ 52) (M * 2 ^ j) b (2 ^ 51) (suc M * 2 ^ j) (lit< tt) (lit< tt) (next M j digits.low digits.high) twice-low b-low p tt (omega (arith, suc-mul M (2 ^ j), mul-le-mul_right (2 ^ j) digits.low)) in
      let t-clear = (mul_clear (2 ^ 52) (M * 2 ^ j) b (two ⊗ a) tt tt p b-low (mul_clear 1 2 two a tt tt (lit< tt) (lit≤ tt) tt).0).1 in
      let sum-clear : T (clear (a ⊕ b)) = rw (add_same false (suc m) e (suc n) d) (round_clear _ _) in
      let sum_low : Low 1 2 (a ⊕ b) = (add_both false 1 1 (suc m) e 1 (suc n) d 2 (lit< tt) (floor 0 2 (lit≤ tt) (lit< tt)) (omega (arith, above)) (omega (arith, b_above)) (lit≤ tt)).1 in
      quotient_fair M j digits.low digits.high (a ⊕ b) (two ⊗ a ⊗ b) (add-fits binary64 a b) (mul-fits binary64 (two ⊗ a) b) sum-clear whole sum_low sum_within t-clear t-low

-- its root
pub root_finite : (x : Float) → T (fits binary64 x) → Fair x → T (finite (sqrt_of x))
root_finite x f p = go x p (sqrt_of x) (sqrt_is_root x f)
  where
    positive_finite : (r : Float) → T (positive r) → T (finite r)
    positive_finite nan q = elim q [ ]
    positive_finite (inf _) q = elim q [ ]
    positive_finite (fin true m e) q = elim q [ ]
    positive_finite (fin false m e) q = tt

    go : (x : Float) → Fair x → (r : Float) → SquareRoot x r → T (finite r)
    go nan p r q = absurd p.1
    go (inf s) p r q = absurd p.1
    go (fin true m e) p r q = absurd p.0
    go (fin false zero e) p r q = subst (λ (z : Float). T (finite z)) (sym q) tt
    go (fin false (suc m) e) p r q = positive_finite r q.number
