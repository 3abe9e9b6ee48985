-- Document 02, #110: Beta stays between 0 and 1. Put in order, the parameters are still normal with a finite sum; the field beta made of them is finite (`Fields`),
-- so that whatever trial is accepted returns a share (`Shares`).
use mathlib.Core.Path.{◌≡◌, refl, sym, ◌∙◌, subst}
use mathlib.Core.List.{List}
use mathlib.Core.Bool.{Bool, true, false, and-eq-true_iff}
use Prim.Native.Nat.{ℕ, zero, suc, ◌+◌, ◌*◌, ◌^◌, ◌≤◌, ◌<◌}
use native.Mathlib.Nat.{le_of_lt, lt_irrefl}
use native.Mathlib.Omega.{arith}
use borrow.Author.Tests.{ltb-true, ltb-false}
use lib.ListN.{length, get_or}
use lib.Dec.{T, lit≤, lit<}
use lib.IntN.{ℤ, negsuc}
use lib.Pow.{pow_pos}
use lib.Ieee.{Float, nan, inf, fin, binary64, up, down, fits, round, sum, add, lt, le, eq}
use lib.Ieee.Bits.{is_true}
use lib.Ieee.Fits.{add-fits, mul-fits, div-fits}
use lib.Ieee.Positive.{num, den, above_of_le}
use Rattle.std.specs.Prelude.{Err, Ok}
use Rattle.kernels.specs.Numbers.{◌⊕◌, ◌⊖◌, ◌⊗◌, ◌⊘◌, quotient, pow2, nought, one, two, finite}
use Rattle.kernels.specs.Inner.{Low}
use Rattle.kernels.proofs.Patterns.{number_above}
use Rattle.kernels.proofs.Lows.{floor, le_low, low_le, low_pos, add_swap, add_more}
use Rattle.draws.specs.Draws.{Lent, place, placed, usable, Drawn}
use Rattle.draws.specs.Fill.{Fills}
use Rattle.draws.specs.declared.{Positions.Positions, Kind.TheVariants.Uniform, Refusal.TheVariants.Above}
use Rattle.draws.proofs.Fills.{given_placed}
use Rattle.beta.specs.declared.{Beta.Beta, algorithm.BetaAlgorithm.BetaAlgorithm}
use Rattle.beta.specs.declared.algorithm.BetaAlgorithm.TheVariants as algorithm
use Rattle.beta.specs.Algorithm.{five, bb_made, bc_made, beta_w, w_at, b_at}
use Rattle.beta.specs.Beta.{sorted_case, sorted_made, ordered, beta_made, final_case, final_of, beta_trials, beta_of, BetaFound}
use Rattle.beta.specs.Range.{Normal, Covered, Held, InUnit}
use Rattle.beta.proofs.Parameters.{makes}
use Rattle.beta.proofs.Exact.{exact, refused_above}
use Rattle.beta.proofs.Exactly.{fill_exactly}
use Rattle.beta.proofs.Fields.{inverse_finite, bb_fair, root_finite}
use Rattle.beta.proofs.Shares.{Unit01, in_unit, w_clear, final_unit}

-- ---- a normal parameter is a number above 0, by its parts
record Parts (x : Float) : Type 0 where
  digits : ℕ
  places : ℤ
  is : x ≡ fin false (suc digits) places
  held : T (fits binary64 (fin false (suc digits) places))
  least : Low (2 ^ 1022) 1 (fin false (suc digits) places)

parts : (x : Float) → Normal x → Parts x
parts x n = go x n.held (subst T (sym n.finite_is) tt) (subst T (sym n.least) tt)
  where
    number : (m : ℕ) (e : ℤ) → T (fits binary64 (fin false m e)) → Low (2 ^ 1022) 1 (fin false m e) → Parts (fin false m e)
    number zero e f l = absurd (lt_irrefl 0 (low_pos (2 ^ 1022) 1 false 0 e (lit< tt) l))
    number (suc m) e f l = record { digits = m; places = e; is = refl; held = f; least = l }

    go : (x : Float) → T (fits binary64 x) → T (finite x) → T (le (pow2 (negsuc 1021)) x) → Parts x
    go nan f g l = elim g [ ]
    go (inf _) f g l = elim g [ ]
    go (fin true m e) f g l = absurd (above_of_le (pow2 (negsuc 1021)) (fin true m e) tt l)
    go (fin false m e) f g l = number m e f (le_low (pow2 (negsuc 1021)) (fin false m e) (2 ^ 1022) 1 (lit≤ tt) l)

normal_above : (x : Float) → Parts x → lt nought x ≡ true
normal_above x p = rw p.is (number_above p.digits p.places)

-- the parameters a and b that an algorithm keeps, and its field beta
abbrev a_of : BetaAlgorithm → Float
a_of (algorithm.BB g) = g.a
a_of (algorithm.BC g) = g.a

abbrev pub beta_field : BetaAlgorithm → Float
beta_field (algorithm.BB g) = g.beta
beta_field (algorithm.BC g) = g.beta

abbrev Sound : BetaAlgorithm → Type 0
Sound m = Parts (a_of m) × Parts (b_at m) × T (finite (beta_field m))

-- ---- in order, a <= b
module _ (a b : Float) (p : Parts a) (q : Parts b) where
  ordered_by : lt a b ≡ true → num a * den b ≤ num b * den a
  unfolding lt
  ordered_by h = rw (p.is, q.is) (le_of_lt (ltb-true _ _ (rw (p.is, q.is) at h)))

  ordered_back : lt a b ≡ false → num b * den a ≤ num a * den b
  unfolding lt
  ordered_back h = rw (p.is, q.is) (ltb-false _ _ (rw (p.is, q.is) at h))

  exchanged : a ⊕ b ≡ b ⊕ a
  exchanged = rw (p.is, q.is) (add_swap (fin false (suc p.digits) p.places) (fin false (suc q.digits) q.places) tt tt)

  -- ---- the field beta of what is made of them is finite
  module _ (order : num a * den b ≤ num b * den a) (sum : T (finite (a ⊕ b))) where
    bb_finite : lt one a ≡ true → T (finite (bb_made a b).beta)
    unfolding bb_made lt
    bb_finite h =
        let above : down p.places < suc p.digits * up p.places = omega (arith, ltb-true (1 * 1 * down p.places) (suc p.digits * up p.places * 1) (rw p.is at h)) in
        root_finite ((a ⊕ b ⊖ two) ⊘ (two ⊗ a ⊗ b ⊖ (a ⊕ b))) (div-fits binary64 (a ⊕ b ⊖ two) (two ⊗ a ⊗ b ⊖ (a ⊕ b)))
        (rw (p.is, q.is) (bb_fair p.digits p.places q.digits q.places p.held q.held above (rw (p.is, q.is) at order) (rw (p.is, q.is) at sum)))

    bc_finite : T (finite (bc_made b a).beta)
    unfolding bc_made
    bc_finite = inverse_finite a (rw p.is p.least)

    sorted_sound : (t s : Bool) → lt one a ≡ t → Sound (sorted_case t a b s).algorithm
    unfolding sorted_case bb_made bc_made
    sorted_sound true s h = (p, q, bb_finite h)
    sorted_sound false s h = (q, p, bc_finite)

-- ---- what is made of normal parameters with a finite sum
module _ {a0 b0 : Float} (c : Covered a0 b0) where
  made_sound : (t : Bool) → lt a0 b0 ≡ t → Sound (ordered t a0 b0).algorithm
  unfolding ordered sorted_made
  made_sound true h = let p = parts a0 c.alpha_is in let q = parts b0 c.beta_is in sorted_sound a0 b0 p q (ordered_by a0 b0 p q h) (rw c.sum_is tt) (lt one a0) false refl
  made_sound false h =
      let p = parts a0 c.alpha_is in
      let q = parts b0 c.beta_is in
      sorted_sound b0 a0 q p (ordered_back a0 b0 p q h) (rw (← exchanged a0 b0 p q, c.sum_is) tt) (lt one b0) true refl

  pub beta_finite : T (finite (beta_field (ordered (lt a0 b0) a0 b0).algorithm))
  beta_finite = (made_sound (lt a0 b0) refl).2

  -- such parameters are never refused
  pub made_when : beta_made a0 b0 ≡ Ok (ordered (lt a0 b0) a0 b0)
  made_when = (makes a0 b0).1 (normal_above a0 (parts a0 c.alpha_is), normal_above b0 (parts b0 c.beta_is), refl)

-- their sum is normal
pub sum_normal : {x y : Float} → Covered x y → Normal (x ⊕ y)
sum_normal {x} {y} c =
    let p = parts x c.alpha_is in
    let q = parts y c.beta_is in
    let (t, l) = add_more (2 ^ 1022) 1 x y (pow_pos 1022) (floor 1022 1 (lit≤ tt) (lit< tt)) (rw p.is tt) (rw q.is tt) (rw p.is p.least) in
    record { held = add-fits binary64 x y; finite_is = c.sum_is; least = is_true (le (pow2 (negsuc 1021)) (x ⊕ y)) (low_le 1021 (x ⊕ y) t l) }

-- ---- a trial
by_parts : (s : Bool) (a b beta u : Float) → Parts a → Parts b → T (finite beta) → T (fits binary64 u) → usable Uniform u ≡ true → Unit01 (final_case s (eq (beta_w a beta u) (inf false)) b (beta_w a beta u))
unfolding beta_w
by_parts s a b beta u p q f g k =
    final_unit s b (beta_w a beta u) (rw q.is q.held) (rw q.is tt) (rw q.is tt) (rw q.is q.least) (mul-fits binary64 a _)
    (w_clear a beta u (rw p.is tt) (rw p.is tt) (rw p.is p.least) f g k)

trial_unit : (s : Bool) (m : BetaAlgorithm) (u : Float) → Sound m → T (fits binary64 u) → usable Uniform u ≡ true → Unit01 (final_of (record { switched_params = s; algorithm = m }) (w_at m u))
unfolding final_of
trial_unit s (algorithm.BB g) u (p, q, f) = by_parts s g.a g.b g.beta u p q f
trial_unit s (algorithm.BC g) u (p, q, f) = by_parts s g.a g.b g.beta u p q f

-- ---- the sample that is found, of what is made of them
module _ {alpha beta : Float} (c : Covered alpha beta) (l : Lent) (h : Held l.uniforms) where
  pub found_stays : (p : Positions) {v : Float} {q : Positions} → BetaFound (ordered (lt alpha beta) alpha beta) l p v q → InUnit v
  unfolding beta_trials
  found_stays p f =
      let g = ordered (lt alpha beta) alpha beta in
      let k = place Uniform p + 2 * f.at in
      rw f.value_is (in_unit _ (trial_unit g.switched_params g.algorithm (get_or l.uniforms k nan) (made_sound c (lt alpha beta) refl) (h k) (simp and-eq-true_iff at f.takes.1).0))

  made_stays : {g : Beta} → beta_made alpha beta ≡ Ok g → (p : Positions) {v : Float} {q : Positions} → BetaFound g l p v q → InUnit v
  made_stays m p {v} {q} f = found_stays p (subst (λ (z : Beta). BetaFound z l p v q) ((makes alpha beta).0 m).2 f)

-- ---- 'each sample of Beta returned is a number, at least 0 and at most 1'
pub stays : {alpha beta : Float} → Covered alpha beta → {g : Beta} → beta_made alpha beta ≡ Ok g → (l : Lent) → Held l.uniforms
    → (p : Positions) {v : Float} {q : Positions} → beta_of g l p ≡ Ok (v, q) → InUnit v
stays c {g} m l h p {v} {q} e = go (placed l p) refl
  where
    go : (b : Bool) → placed l p ≡ b → InUnit v
    go true b = made_stays c l h m p ((exact g l p b).0 e)
    go false b = let z : ◌≡◌ {A = Drawn} (Ok (v, q)) (Err (Above, p)) = sym e ∙ refused_above g l p b in let n : ◌≡◌ {A = ℕ} 0 1 = cc in absurd (omega arith)

-- and so is every cell of a filled output
pub fill_stays : {alpha beta : Float} → Covered alpha beta → {g : Beta} → beta_made alpha beta ≡ Ok g → (l : Lent) → Held l.uniforms
    → (p : Positions) {out left : List Float} {q : Positions} → Fills (placed l p) (beta_of g l) p out (Ok q) left
    → (i : ℕ) → i < length left → InUnit (get_or left i nan)
fill_stays c {g} m l h p f i n =
    let t = ((fill_exactly g).filled_is l p (given_placed f)).0 f in
    made_stays c l h m (t.starts i) (t.each i (rw t.count at n))

-- the sentence speaks of something: Beta(2, 5) is covered
pub two_five : Covered two five
unfolding quotient round add sum le lt eq fits
two_five = record {
  alpha_is = record { held = tt; finite_is = refl; least = refl };
  beta_is = record { held = tt; finite_is = refl; least = refl };
  sum_is = refl;
}
