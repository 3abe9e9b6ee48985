-- Document 02, #110, of Pert: where the sum of its Beta's parameters is finite, a sample is b·range + min of a b from 0 to 1. The parameters are 1 + x, rounded, and
-- above 0, or the constructor would have refused them: where x is below 0 it is at least -(1 - 2^-53), so that 1 + x is normal.
use mathlib.Core.Path.{◌≡◌, sym, subst}
use mathlib.Core.Bool.{Bool, true, false, cond, true≢false, not}
use Prim.Native.Nat.{ℕ, zero, suc, ◌-◌, ◌*◌, ◌^◌, ◌≤◌, ◌<◌}
use native.Mathlib.Decide.{dec_le}
use native.Mathlib.Nat.{lt_of_not-le, zero-mul, le_refl, one-mul}
use native.Mathlib.Omega.{arith}
use borrow.Author.Tests.{ltb-true}
use lib.Dec.{T, ltb, lit≤, lit<}
use lib.IntN.{ℤ, negsuc}
use lib.Ieee.{Float, nan, inf, fin, binary64, up, down, fits, round, sum, add, lt, le, sub, neg, is_nan}
use lib.Ieee.Bits.{is_true}
use lib.Ieee.Fits.{down_pos, add-fits, div-fits, sub-fits}
use Rattle.std.specs.Prelude.{Ok}
use Rattle.kernels.specs.Numbers.{◌⊕◌, pow2, nought, one, finite, clear, ◌⊖◌, ◌⊗◌}
use Rattle.kernels.specs.Inner.{Within, Low}
use Rattle.kernels.proofs.Patterns.{fits_parts}
use Rattle.kernels.proofs.Values.{itself}
use Rattle.kernels.proofs.Bounds.{there, round_below, within_finite, mul_below}
use Rattle.kernels.proofs.Lows.{Turned, floor, lower, round_turned, add_more, add_low, low_le, add_number}
use Rattle.draws.specs.Draws.{Lent}
use Rattle.draws.specs.declared.{Positions.Positions}
use Rattle.draws.proofs.Sequencing.{finished_from}
use Rattle.beta.specs.Beta.{beta_of}
use Rattle.beta.specs.Range.{Normal, Covered, Held, InUnit}
use Rattle.beta.proofs.Parameters as beta-parameters
use Rattle.beta.proofs.Shares.{below_one, Unit01, of_unit}
use Rattle.beta.proofs.Range as beta
use Rattle.pert.specs.declared.{Pert.Pert, PertBuilder.PertBuilder}
use Rattle.pert.specs.Pert.{mode_made, pert_value, pert_of}
use Rattle.pert.proofs.Laws.{v_of, w_of, makes}

-- ---- 1 + x
-- a sum that is finite is of finite numbers
finite_parts : (x y : Float) → T (finite (x ⊕ y)) → T (finite x) × T (finite y)
unfolding add
finite_parts nan y h = elim h [ ]
finite_parts (inf false) nan h = elim h [ ]
finite_parts (inf false) (fin t n d) h = elim h [ ]
finite_parts (inf true) nan h = elim h [ ]
finite_parts (inf true) (fin t n d) h = elim h [ ]
finite_parts (fin s m e) nan h = elim h [ ]
finite_parts (fin s m e) (inf _) h = elim h [ ]
finite_parts (inf true) (inf true) h = absurd h
finite_parts (inf true) (inf false) h = absurd h
finite_parts (inf false) (inf true) h = absurd h
finite_parts (inf false) (inf false) h = absurd h
finite_parts (fin s m e) (fin t n d) h = (tt, tt)

negative : (z : Float) → Turned true z → lt nought z ≡ true → ⊥
unfolding lt
negative nan t e = elim t [ ]
negative (inf true) t e = true≢false (sym e)
negative (inf false) t e = true≢false (sym t)
negative (fin true m d) t e = true≢false (sym e)
negative (fin false m d) t e = true≢false (sym t)

zeroed : (z : Float) → Within 1 0 z → lt nought z ≡ true → ⊥
unfolding lt
zeroed nan w e = elim w [ ]
zeroed (inf _) w e = elim w [ ]
zeroed (fin true m d) w e = true≢false (sym e)
zeroed (fin false m d) w e = omega (arith, w, zero-mul (down d), ltb-true (0 * 2 ^ 0 * down d) (m * up d * 1) e)

-- a - b for an a of at most b
not_above : (a b c : ℕ) → 0 < c → a ≤ b → lt nought (sum binary64 false a true b c) ≡ true → ⊥
unfolding sum
not_above a b c p h = go (ltb a b)
  where
    go : (t : Bool) → lt nought (cond t (round binary64 true (b - a) c) (round binary64 false (a - b) c)) ≡ true → ⊥
    go true = negative (round binary64 true (b - a) c) (round_turned true (b - a) c)
    go false = zeroed (round binary64 false (a - b) c) (round_below false 1 0 (a - b) c p (lit< tt) (there 0 0 (lit≤ tt) (lit< tt)) (omega arith))

short : (s : Bool) (m : ℕ) (e : ℤ) → T (fits binary64 (fin s m e)) → m < 2 ^ 53
short s zero e f = lit< tt
short s (suc m) e f = (fits_parts s m e f).0

one_low : (x : Float) → T (fits binary64 x) → T (finite x) → lt nought (one ⊕ x) ≡ true → T (clear (one ⊕ x)) × Low (2 ^ 53) 1 (one ⊕ x)
unfolding add
one_low nan f g h = elim g [ ]
one_low (inf _) f g h = elim g [ ]
one_low (fin false m e) f g h = let (c, l) = add_more 1 1 one (fin false m e) (lit< tt) (floor 0 1 (lit≤ tt) (lit< tt)) tt tt (lit≤ tt) in (c, lower 1 1 (2 ^ 53) 1 (one ⊕ fin false m e) (lit< tt) l (lit≤ tt))
one_low (fin true m e) f g h = by_size (dec_le (down e) (m * up e))
  where
    by_size : Dec (down e ≤ m * up e) → T (clear (one ⊕ fin true m e)) × Low (2 ^ 53) 1 (one ⊕ fin true m e)
    by_size (yes l) = absurd (not_above (1 * 1 * down e) (m * up e * 1) (1 * down e) (omega (arith, down_pos e)) (omega (arith, l)) h)
    by_size (no n) = add_low (2 ^ 53) (2 ^ 53) one (2 ^ 53 - 1) (fin true m e) 1 (lit< tt) (floor 53 1 (lit≤ tt) (lit< tt)) tt (lit≤ tt) (below_one m e (short true m e f) (lt_of_not-le n)) (lit≤ tt)

one_normal : (x : Float) → T (fits binary64 x) → T (finite (one ⊕ x)) → lt nought (one ⊕ x) ≡ true → Normal (one ⊕ x)
one_normal x f g h =
    let (c, l) = one_low x f (finite_parts one x g).1 h in
    record { held = add-fits binary64 one x; finite_is = is_true (finite (one ⊕ x)) g; least = is_true (le (pow2 (negsuc 1021)) (one ⊕ x)) (low_le 1021 (one ⊕ x) c (lower (2 ^ 53) 1 (2 ^ 1022) 1 (one ⊕ x) (lit< tt) l (lit≤ tt))) }

-- ---- the Beta inside
pub inner_stays : (b : PertBuilder) (mode : Float) → finite (v_of b mode ⊕ w_of b mode) ≡ true → {t : Pert} → mode_made b mode ≡ Ok t → (l : Lent) → Held l.uniforms
    → (p : Positions) {x : Float} {q : Positions} → pert_of t l p ≡ Ok (x, q) → (u : Float) × InUnit u × (x ≡ pert_value t u)
unfolding pert_of
inner_stays b mode f {t} m l h p e =
    let g = ((makes b mode).0 m).3 in
    let (v, w, _) = (beta-parameters.makes (v_of b mode) (w_of b mode)).0 g in
    let (i, j) = finite_parts (v_of b mode) (w_of b mode) (subst T (sym f) tt) in
    let c : Covered (v_of b mode) (w_of b mode) = record { alpha_is = one_normal _ (div-fits binary64 _ _) i v; beta_is = one_normal _ (div-fits binary64 _ _) j w; sum_is = f } in
    let (u, s, d) = finished_from (pert_value t) p (beta_of t.beta l p) e in
    (u, beta.stays c g l h p s, sym d)

-- ---- a finite range makes it a number
part_finite : (u r : Float) → Unit01 u → T (fits binary64 r) → T (finite r) → T (finite (u ⊗ r))
unfolding fits
part_finite u nan _ f g = elim g [ ]
part_finite u (inf _) _ f g = elim g [ ]
part_finite u (fin s n d) (c, w) f g =
    within_finite (down d) (n * up d) (u ⊗ fin s n d)
    (mul_below 1 1 u (down d) (n * up d) (fin s n d) (down d) (n * up d) (rw one-mul (down_pos d)) (down_pos d) (itself n d (unsigned n f)) w (le_refl (n * up d * down d)) (rw (one-mul, one-mul) (le_refl (n * up d * down d))))
  where
    unsigned : (n : ℕ) → T (fits binary64 (fin s n d)) → T (fits binary64 (fin false n d))
    unsigned zero f = f
    unsigned (suc n) f = f

min_finite : (max min : Float) → T (finite (max ⊖ min)) → T (finite min)
unfolding sub neg
min_finite max (fin s m e) h = tt
min_finite max (inf s) h = (finite_parts max (inf (not s)) h).1
min_finite max nan h = (finite_parts max nan h).1

pub stays_number : (b : PertBuilder) (mode : Float) → finite (v_of b mode ⊕ w_of b mode) ≡ true → {t : Pert} → mode_made b mode ≡ Ok t → finite t.range ≡ true → (l : Lent) → Held l.uniforms
    → (p : Positions) {x : Float} {q : Positions} → pert_of t l p ≡ Ok (x, q) → is_nan x ≡ false
stays_number b mode f {t} m r l h p e =
    let (_, _, _, _, i, j) = (makes b mode).0 m in
    let (u, k, d) = inner_stays b mode f m l h p e in
    let g : T (finite (b.max ⊖ b.min)) = rw (← j, r) tt in
    let low : T (finite t.min) = subst (λ (z : Float). T (finite z)) (sym i) (min_finite b.max b.min g) in
    let part = part_finite u t.range (of_unit u k) (subst (λ (z : Float). T (fits binary64 z)) (sym j) (sub-fits binary64 b.max b.min)) (subst T (sym r) tt) in
    subst (λ (z : Float). is_nan z ≡ false) (sym d) (add_number (u ⊗ t.range) t.min part low)
