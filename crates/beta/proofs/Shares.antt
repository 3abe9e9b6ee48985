-- What a trial returns lies from 0 to 1, where the made field beta is finite. u/(1-u) is above 0 and at most 2^53, so its logarithm is finite and v is a number;
-- w = a·exp(v) has its sign clear; and w/(b+w) and b/(b+w) are parts of what rounds to no less than them.
use mathlib.Core.Path.{◌≡◌, sym, subst}
use mathlib.Core.Bool.{Bool, true, false, true≢false}
use Prim.Native.Nat.{ℕ, zero, suc, ◌-◌, ◌*◌, ◌^◌, ◌≤◌, ◌<◌}
use native.Mathlib.Decide.{dec_le}
use native.Mathlib.Nat.{le_refl, le_trans, le_of_eq, lt_of_not-le, one-mul, mul-pos, mul-le-mul_right, zero-lt-suc, zero-mul}
use native.Mathlib.Omega.{arith}
use borrow.Author.Tests.{ltb-true}
use lib.Dec.{T, lit≤, lit<}
use lib.IntN.{ℤ, pos, negsuc}
use lib.Pow.{pow_pos, pow_mono}
use lib.Ieee.{Float, nan, inf, fin, binary64, up, down, fits, lt, le, eq}
use lib.Ieee.Bits.{is_true}
use lib.Ieee.Fits.{up_pos, down_pos, div-fits}
use Rattle.kernels.specs.Numbers.{◌⊕◌, ◌⊖◌, ◌⊗◌, ◌⊘◌, nought, one, finite, clear}
use Rattle.kernels.specs.Inner.{Within, Low}
use Rattle.kernels.specs.Ln.{ln_of}
use Rattle.kernels.specs.Exp.{exp_of}
use Rattle.kernels.proofs.Patterns.{fits_parts}
use Rattle.kernels.proofs.Values.{itself}
use Rattle.kernels.proofs.Bounds.{there, power, within_finite, rescaled}
use Rattle.kernels.proofs.Lows.{floor, value_floor, mul_clear, mul_number, add_more, add_swap, sub_low, sub_clear_below, div_below, div_low, div_clear, low_above, clear_le, at_most_one, within_one, share}
use Rattle.kernels.proofs.Kernels.{ln_finite, exp_clear}
use Rattle.draws.specs.Draws.{usable}
use Rattle.draws.specs.declared.Kind.TheVariants.{Uniform}
use Rattle.draws.proofs.Reading.{usable_between}
use Rattle.beta.specs.Algorithm.{beta_v, beta_w}
use Rattle.beta.specs.Beta.{final_case}
use Rattle.beta.specs.Range.{InUnit}

-- from 0 to 1, as the bounds have it
abbrev pub Unit01 : Float → Type 0
Unit01 x = T (clear x) × Within 1 1 x

pub in_unit : (x : Float) → Unit01 x → InUnit x
in_unit x (c, w) = record { at_least = is_true (le nought x) (clear_le x c); at_most = is_true (le x one) (at_most_one x c w); clear_is = is_true (clear x) c }

pub of_unit : (x : Float) → InUnit x → Unit01 x
of_unit x u = let c : T (clear x) = subst T (sym u.clear_is) tt in (c, within_one x c (subst T (sym u.at_most) tt))

-- ---- u between 0 and 1
-- a value below 1 is at most 1 - 2^-53
pub below_one : (m : ℕ) (e : ℤ) → m < 2 ^ 53 → m * up e < down e → Within (2 ^ 53) (2 ^ 53 - 1) (fin false m e)
below_one m (pos k) h l = omega arith
below_one m (negsuc k) h l = by_place (dec_le (suc k) 53)
  where
    by_place : Dec (suc k ≤ 53) → m * 1 * 2 ^ 53 ≤ (2 ^ 53 - 1) * 2 ^ suc k
    by_place (yes p) = let g : 2 ^ suc k ≤ 2 ^ 53 = pow_mono p in omega (arith, g, l)
    by_place (no f) = let g : 2 ^ 54 ≤ 2 ^ suc k = pow_mono (lt_of_not-le f) in omega (arith, g, h)

abbrev Odds : Float → Type 0
Odds u = T (finite (u ⊘ (one ⊖ u))) × (lt nought (u ⊘ (one ⊖ u)) ≡ true)

odds_at : (m : ℕ) (e : ℤ) → T (fits binary64 (fin false (suc m) e)) → suc m * up e < down e → Odds (fin false (suc m) e)
odds_at m e f l =
    let u = fin false (suc m) e in
    let (s, d, _) = fits_parts false m e f in
    let (c, low) = sub_low (2 ^ 53) (2 ^ 53) one (2 ^ 53 - 1) u 1 (lit< tt) (floor 53 1 (lit≤ tt) (lit< tt)) tt (lit≤ tt) (below_one (suc m) e s l) (lit≤ tt) in
    let small : Within 1 1 u = omega (arith, l) in
    let high : Within 1 1 (one ⊖ u) = sub_clear_below 1 1 one u (lit< tt) (there 0 1 (lit≤ tt) (lit< tt)) tt tt (lit≤ tt) small in
    let least : Low (2 ^ 1074) 1 u = le_trans (le_of_eq (one-mul (down e))) (le_trans d (le_trans (le_of_eq (sym (one-mul (2 ^ 1074)))) (mul-le-mul_right (2 ^ 1074) (mul-pos (zero-lt-suc m) (up_pos e))))) in (
      within_finite 1 (2 ^ 53) (u ⊘ (one ⊖ u)) (div_below 1 1 u (2 ^ 53) 1 (one ⊖ u) 1 (2 ^ 53) (lit< tt) (lit< tt) (power 53 (lit≤ tt)) small low (lit< tt) (lit≤ tt)),
      low_above (2 ^ 1074) 1 (u ⊘ (one ⊖ u)) (div_clear (2 ^ 53) 1 u (one ⊖ u) tt tt c (lit< tt) low) (lit< tt)
          (div_low (2 ^ 1074) 1 u (2 ^ 53) (2 ^ 53) (one ⊖ u) (2 ^ 1074) 1 1 (mul-pos (pow_pos 1074) (pow_pos 53)) (pow_pos 1074) (floor 1074 1 (lit≤ tt) (lit< tt)) tt least (rescaled 1 1 (2 ^ 53) (2 ^ 53) (one ⊖ u) (lit< tt) high (lit≤ tt)) (lit< tt) low (lit≤ tt)),
    )

odds : (u : Float) → T (fits binary64 u) → lt nought u ≡ true → lt u one ≡ true → Odds u
unfolding lt
odds nan f a b = absurd (true≢false (sym a))
odds (inf true) f a b = absurd (true≢false (sym a))
odds (inf false) f a b = absurd (true≢false (sym b))
odds (fin true m e) f a b = absurd (true≢false (sym a))
odds (fin false zero e) f a b = absurd (true≢false (sym (simp zero-mul at a)))
odds (fin false (suc m) e) f a b = odds_at m e f (omega (arith, ltb-true (suc m * up e * 1) (1 * 1 * down e) b))

-- ---- v and w
module _ (a beta u : Float) (c : T (clear a)) (f : T (finite a)) (l : Low (2 ^ 1022) 1 a) (h : T (finite beta)) (g : T (fits binary64 u)) (k : usable Uniform u ≡ true) where
  -- w has its sign clear
  pub w_clear : T (clear (beta_w a beta u))
  unfolding beta_w beta_v
  w_clear =
      let (above, below) = (usable_between u).0 k in
      let (whole, over) = odds u g above below in
      let x = u ⊘ (one ⊖ u) in
      let y = subst T (sym (ln_finite x (div-fits binary64 u (one ⊖ u)) (is_true (finite x) whole) over)) tt in
      (mul_clear (2 ^ 1022) 1 a (exp_of (beta ⊗ ln_of x)) c f (lit< tt) l (exp_clear (beta ⊗ ln_of x) (mul_number beta (ln_of x) h y))).0

-- ---- the two shares
module _ (n : ℕ) (d : ℤ) (f : T (fits binary64 (fin false n d))) (l : Low (2 ^ 1022) 1 (fin false n d)) where
  abbrev b : Float
  b = fin false n d

  sum_more : (w : Float) → T (clear w) → T (clear (b ⊕ w)) × Low (2 ^ 1022) 1 (b ⊕ w)
  sum_more w q = add_more (2 ^ 1022) 1 b w (pow_pos 1022) (floor 1022 1 (lit≤ tt) (lit< tt)) tt q l

  -- b/(b+w)
  pub second_share : (w : Float) → T (clear w) → Unit01 (b ⊘ (b ⊕ w))
  second_share w q =
      let (c, v) = sum_more w q in
      share n d (b ⊕ w) (2 ^ 1022) 1 c (add_more (down d) (n * up d) b w (down_pos d) (value_floor (down d) (n * up d) (itself n d f)) tt q (le_refl (n * up d * down d))).1 (lit< tt) v

  -- w/(b+w), for a finite w
  pub first_share : (m : ℕ) (e : ℤ) → T (fits binary64 (fin false m e)) → Unit01 (fin false m e ⊘ (b ⊕ fin false m e))
  first_share m e g =
      let w = fin false m e in
      let (c, v) = sum_more w tt in
      share m e (b ⊕ w) (2 ^ 1022) 1 c (rw (add_swap b w tt tt) (add_more (down e) (m * up e) w b (down_pos e) (value_floor (down e) (m * up e) (itself m e g)) tt tt (le_refl (m * up e * down e))).1) (lit< tt) v

-- 'Unswitched: 1 if w is plus infinity, else w/(b+w). Switched: b/(b+w).'
pub final_unit : (s : Bool) (b w : Float) → T (fits binary64 b) → T (clear b) → T (finite b) → Low (2 ^ 1022) 1 b → T (fits binary64 w) → T (clear w) → Unit01 (final_case s (eq w (inf false)) b w)
unfolding final_case eq
final_unit true (fin false n d) w f p q l g c = second_share n d f l w c
final_unit false nan w f p q l g c = elim p [ ]
final_unit false (inf _) w f p q l g c = elim q [ ]
final_unit false (fin false n d) nan f p q l g c = elim c [ ]
final_unit false (fin false n d) (inf true) f p q l g c = elim c [ ]
final_unit false (fin false n d) (fin true m e) f p q l g c = elim c [ ]
final_unit false (fin true n d) w f p q l g c = elim p [ ]
final_unit true nan w f p q l g c = elim p [ ]
final_unit true (inf _) w f p q l g c = elim q [ ]
final_unit true (fin true n d) w f p q l g c = elim p [ ]
final_unit false (fin false n d) (inf false) f p q l g c = (tt, lit≤ tt)
final_unit false (fin false n d) (fin false m e) f p q l g c = first_share n d f l m e g
