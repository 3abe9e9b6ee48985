-- The rule's root is the one that IEEE 754 asks for: it is that of `nearer_root`, put in its place (`rule_root`), which `is_root`. There is no other,
-- since √x would lie on both sides of the middle between the two, and no tie, since it lies on one.
use Rattle.std.proofs.Common.{◌≡◌, ℕ, zero, suc, ◌+◌, ◌*◌, ◌/◌, ◌^◌, ◌<◌, ◌≤◌, true, false, T, ltb, ◌⊎◌, ℤ, sym, refl, ap, ◌∙◌, subst, inl, inr, ⊎_elim, lt_trans, lt_of_lt_of_le, lt_irrefl, mul_comm, add_comm, eq-or-lt_of_le, lt_of_not-le, ne_of_gt, ne_of_lt, mul-div_cancel, arith, lt→ltb, pow_pos, pow_mono, shl_lt}
use native.Mathlib.Decide.{dec_le}
use lib.Ieee.{Float, nan, inf, fin, binary64, up, down, fits, lt, to_bits}
use lib.Ieee.Exact.{HasValue, round_exact}
use lib.Ieee.Fits.{down_pos, round-fits, nan-fits}
use lib.Ieee.Positive.{num, den, positive}
use Rattle.roots.specs.Roots.{floor_root, nearer}
use Rattle.roots.proofs.Roots.{nearer_root}
use Rattle.kernels.specs.Numbers.{quotient}
use Rattle.kernels.specs.Inner.{units}
use Rattle.kernels.specs.Sqrt.{sqrt_of, root_of, units_of}
use Rattle.kernels.specs.SquareRoot.{Nearest, SquareRoot, square, unsigned, root_below_middle, middle_below_root}
use Rattle.kernels.proofs.Patterns.{value_of, finite_pattern, pattern_pos, number_above}
use Rattle.kernels.proofs.Values.{same_number}
use Rattle.kernels.proofs.Scaling.{scaled_units, rule_root}
use Rattle.kernels.proofs.Nearness.{positive_unsigned, is_root}

-- ---- the rule's root
exact : (R w : ℕ) → R < 2 ^ 53 → w < 2040 → HasValue (quotient (R * 2 ^ w) (2 ^ 1074)) false (R * 2 ^ w) (2 ^ 1074)
unfolding quotient
exact R w h k =
    let l : 53 + w ≤ 2098 = omega arith in
    round_exact binary64 false (R * 2 ^ w) (2 ^ 1074) R w (pow_pos 1074) h (lt_of_lt_of_le (shl_lt 53 w h) (pow_mono l)) refl

quotient_fits : (n d : ℕ) → T (fits binary64 (quotient n d))
unfolding quotient
quotient_fits n d = round-fits binary64 false n d

units_are : (m b : ℕ) (e : ℤ) → m * up e * 2 ^ 1074 ≡ units b * down e → units_of m e ≡ units b
units_are m b e h = ap (λ (n : ℕ). n / down e) h ∙ mul-div_cancel (units b) (down_pos e)

pub sqrt_is_root : (x : Float) → T (fits binary64 x) → SquareRoot x (sqrt_of x)
unfolding sqrt_of
sqrt_is_root nan f = refl
sqrt_is_root (inf true) f = refl
sqrt_is_root (inf false) f = refl
sqrt_is_root (fin true zero e) f = refl
sqrt_is_root (fin false zero e) f = refl
sqrt_is_root (fin true (suc m) e) f = refl
sqrt_is_root (fin false (suc m) e) f =
    let x = fin false (suc m) e in
    let b = to_bits binary64 x in
    let k = finite_pattern (suc m) e f in
    let hx = value_of x f k in
    let t = scaled_units b (pattern_pos x f (number_above m e)) k in
    let n = t.0 in
    let w = t.1 in
    let s = t.2 in
    let R = nearer (n * 2 ^ 52) (floor_root 53 (n * 2 ^ 52)) in
    let g = nearer_root n s.low s.high in
    subst (Nearest x) (sym (ap (λ (u : ℕ). root_of (u * 2 ^ 1074)) (units_are (suc m) b e hx.1) ∙ rule_root (units b) n w s))
    (is_root x (quotient (R * 2 ^ w) (2 ^ 1074)) (units b) n w R (quotient_fits (R * 2 ^ w) (2 ^ 1074)) hx (exact R w g.high s.places) s g)

pub sqrt_fits : (x : Float) → T (fits binary64 x) → T (fits binary64 (sqrt_of x))
unfolding sqrt_of
sqrt_fits nan f = f
sqrt_fits (inf true) f = nan-fits binary64
sqrt_fits (inf false) f = f
sqrt_fits (fin true zero e) f = f
sqrt_fits (fin false zero e) f = f
sqrt_fits (fin true (suc m) e) f = nan-fits binary64
sqrt_fits (fin false (suc m) e) f = (sqrt_is_root (fin false (suc m) e) f).held

-- ---- there is no other
-- of two values one is below the other, or they are one
ordered : (r y : Float) → T (fits binary64 r) → T (fits binary64 y) → T (unsigned r) → T (unsigned y) → T (lt r y) ⊎ (T (lt y r) ⊎ (r ≡ y))
unfolding lt
ordered nan y f g p q = elim p [ ]
ordered (inf _) y f g p q = elim p [ ]
ordered (fin false m e) nan f g p q = elim q [ ]
ordered (fin false m e) (inf _) f g p q = elim q [ ]
ordered (fin false m e) (fin true n d) f g p q = elim q [ ]
ordered (fin true m e) y f g p q = elim p [ ]
ordered (fin false m e) (fin false n d) f g p q = go (dec_le a b)
  where
    a : ℕ
    a = m * up e * down d

    b : ℕ
    b = n * up d * down e

    go : Dec (a ≤ b) → T (ltb a b) ⊎ (T (ltb b a) ⊎ (fin false m e ≡ fin false n d))
    go (no h) = inr (inl (lt→ltb b a (lt_of_not-le h)))
    go (yes h) = ⊎_elim (λ k. inr (inr (same_number m n e d f g k))) (λ l. inl (lt→ltb a b l)) (eq-or-lt_of_le h)

clash : (x r y : Float) → root_below_middle x r y → middle_below_root x y r → ⊥
clash x r y a b = lt_irrefl _ (lt_trans a (rw (add_comm (num y * den r) (num r * den y), mul_comm (den y) (den r)) at b))

one_number : (x r y : Float) → Nearest x r → Nearest x y → r ≡ y
one_number x r y a b =
    let p = positive_unsigned r a.number in
    let q = positive_unsigned y b.number in
    ⊎_elim (λ l. absurd (clash x r y (a.above y b.held q l) (b.below r a.held p l)))
    (⊎_elim (λ l. absurd (clash x y r (b.above r a.held p l) (a.below y b.held q l))) (λ e. e)) (ordered r y a.held b.held p q)

pub one_root : (x r y : Float) → SquareRoot x r → SquareRoot x y → r ≡ y
one_root nan r y a b = a ∙ sym b
one_root (inf true) r y a b = a ∙ sym b
one_root (inf false) r y a b = a ∙ sym b
one_root (fin true zero e) r y a b = a ∙ sym b
one_root (fin false zero e) r y a b = a ∙ sym b
one_root (fin true (suc m) e) r y a b = a ∙ sym b
one_root (fin false (suc m) e) r y a b = one_number (fin false (suc m) e) r y a b

pub root_is_sqrt : (x r : Float) → T (fits binary64 x) → SquareRoot x r → r ≡ sqrt_of x
root_is_sqrt x r f a = one_root x r (sqrt_of x) a (sqrt_is_root x f)

-- √x is the middle of no two values
pub no_tie : (x r y : Float) → T (positive x) → SquareRoot x r → T (fits binary64 y) → T (unsigned y) → (r ≡ y → ⊥) → 4 * num x * square (den r * den y) ≡ square (num r * den y + num y * den r) * den x → ⊥
no_tie nan r y p a f v d t = elim p [ ]
no_tie (inf _) r y p a f v d t = elim p [ ]
no_tie (fin false zero e) r y p a f v d t = elim p [ ]
no_tie (fin true _ e) r y p a f v d t = elim p [ ]
no_tie (fin false (suc m) e) r y p a f v d t =
    ⊎_elim (λ l. ne_of_lt (a.above y f v l) t) (⊎_elim (λ l. ne_of_gt (a.below y f v l) t) d) (ordered r y a.held f (positive_unsigned r a.number) v)
