-- 17 is refused only above a slice: a search that starts within the slices asks for no draw further on than just past their ends. A draw refused
-- by 18 is there, and so is every draw examined before it: where those are the same, the call is refused the same way.
use Prim.Native.Nat.{ℕ, zero, suc, ◌+◌, ◌<◌}
use native.Mathlib.Nat.{add-zero, zero-lt-suc, le_trans}
use native.Mathlib.Omega.{arith}
use borrow.Author.Tests.{ltb-true}
use mathlib.Core.Path.{◌≡◌, refl, sym, ◌∙◌, ap}
use mathlib.Core.Bool.{Bool, true, false, cond, true≢false, or-true, and-eq-true_iff}
use lib.ListN.{length}
use lib.Ieee.{Float}
use Rattle.draws.specs.Draws.{Lent, place, past, placed, usable, there, nth, Had, refusal_at}
use Rattle.draws.specs.Search.{Rejects, Halted}
use Rattle.draws.specs.declared.Positions.{Positions}
use Rattle.draws.specs.declared.Kind.{Kind}
use Rattle.draws.specs.declared.Kind.TheVariants.{Uniform, Normal, Exponential}
use Rattle.draws.specs.declared.Refusal.{Refusal}
use Rattle.draws.specs.declared.Refusal.TheVariants.{Above, Unusable}
use Rattle.draws.proofs.Reading.{unusable_there, not_above}
use Rattle.draws.proofs.Searches.{none_before, one_halt}
use Rattle.draws.specs.Later.{SameTo, Reached}
use Rattle.draws.proofs.Later.{tells_placed, placed_tells, placed_later, there_later, nth_later, past_reached, Alike, Stuck, carried_halt}
use Rattle.gamma.specs.declared.large.GammaLargeShape.{GammaLargeShape}
use Rattle.gamma.specs.declared.small.GammaSmallShape.{GammaSmallShape}
use Rattle.gamma.specs.declared.Gamma.{Gamma}
use Rattle.gamma.specs.declared.Gamma.TheVariants.{One, Small, Large}
use Rattle.gamma.specs.Large.{used, normal_usable, large_trials}
use Rattle.gamma.specs.Small.{one_trials}
use Rattle.gamma.specs.Gamma.{gamma_of, SmallHalted, at_opening, past_opening, GammaHalted, examined_by}
use Rattle.gamma.proofs.Trials.{spot}
use Rattle.gamma.proofs.Counts.{reads_before, reached_spot}
use Rattle.gamma.proofs.Exact.{refused_first}
use Rattle.gamma.proofs.Later.{same_used, alike, one_alike}
use Rattle.std.specs.Prelude.{Err}

-- ---- Large
module _ (g : GammaLargeShape) (l : Lent) (p : Positions) (b : placed l p ≡ true) where
  -- the trial that is refused starts within the slices
  at_spot : {r : Refusal} (h : Halted (large_trials g l p) r) → Reached l p (spot g l p h.at)
  at_spot h = reached_spot g l p b h.at (λ k m. (h.earlier k m).0)

  large_not_above : ¬ Halted (large_trials g l p) Above
  unfolding large_trials
  large_not_above h = go (normal_usable g l p h.at) h.refusal_is
    where
      go : (n : Bool) → ¬ (Above ≡ cond n (refusal_at Uniform l.uniforms (place Uniform p + used g l p h.at)) (refusal_at Normal l.normals (place Normal p + h.at)))
      go true = not_above Uniform l.uniforms (place Uniform p + used g l p h.at) (at_spot h Uniform).1
      go false = not_above Normal l.normals (place Normal p + h.at) (at_spot h Normal).1

  module _ {κ : Kind} {i : ℕ} (h : Halted (large_trials g l p) (Unusable κ i)) where
    abbrev a : ℕ
    a = h.at

    -- n says that the normal is there and usable, so that it is the uniform that is refused
    abbrev examined_if : Bool → Positions
    examined_if n = past Uniform (used g l p a + cond n 1 0) (past Normal (suc a) p)

    has_normal : (n : Bool) → normal_usable g l p a ≡ n → there Normal l p a ≡ true
    unfolding large_trials
    has_normal true e = ((and-eq-true_iff _ _).0 e).0
    has_normal false e = (unusable_there Normal l.normals (place Normal p + a) (rw e at h.refusal_is)).0

    has_uniform : normal_usable g l p a ≡ true → there Uniform l p (used g l p a) ≡ true
    unfolding large_trials
    has_uniform e = (unusable_there Uniform l.uniforms (place Uniform p + used g l p a) (rw e at h.refusal_is)).0

    reached_if : (n : Bool) → normal_usable g l p a ≡ n → Reached l p (examined_if n)
    reached_if n e Normal = let i : place Normal p + a < length l.normals = ltb-true _ _ (has_normal n e) in omega arith
    reached_if n e Exponential = at_spot h Exponential
    reached_if true e Uniform = let i : place Uniform p + used g l p a < length l.uniforms = ltb-true _ _ (has_uniform e) in omega arith
    reached_if false e Uniform = rw add-zero (at_spot h Uniform)

    -- among draws that are the same up to there the trial is refused too
    module _ (l' : Lent) (n : Bool) (e : normal_usable g l p a ≡ n) (s : SameTo (examined_if n) l l') where
      abbrev r : Reached l p (examined_if n)
      r = reached_if n e

      has : there Normal l p a ≡ true
      has = has_normal n e

      has' : there Normal l' p a ≡ true
      has' = there_later l l' p (examined_if n) r s Normal a (omega arith)

      x : nth Normal l' p a ≡ nth Normal l p a
      x = nth_later l l' p (examined_if n) r s Normal a (omega arith)

      c : used g l' p a ≡ used g l p a
      c = same_used g l l' p (examined_if n) r s a (omega arith)

      passed : (k : ℕ) → k < a → Alike (large_trials g l p) (large_trials g l' p) k
      passed k m = alike g l l' p (examined_if n) r s k (omega arith) (λ d. omega (arith, reads_before g l p k a m d))

    stuck : (l' : Lent) (n : Bool) → normal_usable g l p a ≡ n → SameTo (examined_if n) l l' → Stuck (large_trials g l p) (large_trials g l' p) a
    unfolding large_trials
    stuck l' true e s =
        let r = reached_if true e in
        let i = alike g l l' p (examined_if true) r s a (omega arith) (λ d. omega arith) in
        let u = there_later l l' p (examined_if true) r s Uniform (used g l p a) (omega arith) in
        let un = ((and-eq-true_iff (there Normal l p a) (usable Normal (nth Normal l p a))).0 e).1 in
        record {
          halts_too = λ j. h.halts (simp (has l' true e s, has_uniform e, or-true), sym i.usable_same ∙ j.1);
          refusal_same = simp (has l' true e s, has' l' true e s, x l' true e s, c l' true e s, un, u, has_uniform e);
        }
    stuck l' false e s =
        let un : usable Normal (nth Normal l p a) ≡ false = rw (has l' false e s) at e in
        record {
          halts_too = λ j. true≢false (sym ((and-eq-true_iff _ _).0 j.1).0 ∙ ap (usable Normal) (x l' false e s) ∙ un);
          refusal_same = simp (has l' false e s, has' l' false e s, x l' false e s, un);
        }

    large_reached : Reached l p ((large_trials g l p).examined a)
    unfolding large_trials
    large_reached = reached_if (normal_usable g l p a) refl

    large_later : (l' : Lent) → SameTo ((large_trials g l p).examined a) l l' → Halted (large_trials g l' p) (Unusable κ i)
    unfolding large_trials
    large_later l' s = carried_halt h (passed l' (normal_usable g l p a) refl s) (stuck l' (normal_usable g l p a) refl s)

-- ---- One
module _ (s : Float) (l : Lent) (p : Positions) (b : placed l p ≡ true) where
  one_not_above : ¬ Halted (one_trials s l p) Above
  unfolding one_trials
  one_not_above h = not_above Exponential l.exponentials (place Exponential p + 0) (omega (arith, placed_tells l p b Exponential)) h.refusal_is

  only : {r : Refusal} (h : Halted (one_trials s l p) r) → h.at ≡ 0
  unfolding one_trials
  only h = go h.at h.earlier
    where
      go : (k : ℕ) → ((j : ℕ) → j < k → Rejects (one_trials s l p) j) → k ≡ 0
      go zero f = refl
      go (suc k) f = absurd (true≢false (f 0 (zero-lt-suc k)).2)

  module _ {κ : Kind} {i : ℕ} (h : Halted (one_trials s l p) (Unusable κ i)) where
    has_exponential : there Exponential l p 0 ≡ true
    unfolding one_trials
    has_exponential = (unusable_there Exponential l.exponentials (place Exponential p + 0) h.refusal_is).0

    one_reached : Reached l p (past Exponential 1 p)
    one_reached = let i : place Exponential p + 0 < length l.exponentials = ltb-true _ _ has_exponential in past_reached Exponential 1 l p b (omega arith)

    one_later : (l' : Lent) → SameTo (past Exponential 1 p) l l' → Halted (one_trials s l' p) (Unusable κ i)
    unfolding one_trials
    one_later l' t =
        let c = one_alike s l l' p (past Exponential 1 p) one_reached t (omega arith) 0 (omega arith) in
        record {
          at = 0;
          halts = λ j. rw (only h) at h.halts (has_exponential, sym c.usable_same ∙ j.1);
          earlier = none_before (one_trials s l' p);
          refusal_is = h.refusal_is ∙ rw (has_exponential, there_later l l' p (past Exponential 1 p) one_reached t Exponential 0 (omega arith));
        }

-- ---- Small
module _ (g : GammaSmallShape) (l : Lent) (p : Positions) (b : placed l p ≡ true) where
  past_opened : Had Uniform l p → Reached l p (past Uniform 1 p)
  past_opened o = let i : place Uniform p + 0 < length l.uniforms = ltb-true _ _ o.0 in past_reached Uniform 1 l p b (omega arith)

  past_placed : Had Uniform l p → placed l (past Uniform 1 p) ≡ true
  past_placed o = tells_placed l (past Uniform 1 p) (λ k. (past_opened o k).1)

  small_not_above : ¬ SmallHalted g l p Above
  small_not_above (at_opening (n, e)) = not_above Uniform l.uniforms (place Uniform p) (placed_tells l p b Uniform) e
  small_not_above (past_opening o h) = large_not_above g.large_shape l (past Uniform 1 p) (past_placed o) h

  module _ {κ : Kind} {i : ℕ} where
    small_reached : (h : SmallHalted g l p (Unusable κ i)) → Reached l p (examined_by (Small g) l p (Unusable κ i) h)
    small_reached (at_opening (n, e)) =
        let j : place Uniform p < length l.uniforms = ltb-true _ _ (unusable_there Uniform l.uniforms (place Uniform p) e).0 in
        past_reached Uniform 1 l p b (omega arith)
    small_reached (past_opening o h) =
        let j = large_reached g.large_shape l (past Uniform 1 p) (past_placed o) h in
        λ k. (le_trans (past_opened o k).0 (j k).0, (j k).1)

    small_later : (h : SmallHalted g l p (Unusable κ i)) (l' : Lent) → SameTo (examined_by (Small g) l p (Unusable κ i) h) l l' → SmallHalted g l' p (Unusable κ i)
    small_later (at_opening (n, e)) l' s =
        let has = (unusable_there Uniform l.uniforms (place Uniform p) e).0 in
        let r = small_reached (at_opening (n, e)) in
        let has' = there_later l l' p (past Uniform 1 p) r s Uniform 0 (omega arith) in
        let u = nth_later l l' p (past Uniform 1 p) r s Uniform 0 (omega arith) in
        at_opening ((λ o. n (rw add-zero has, rw u at o.1)), e ∙ rw (has, rw add-zero at has'))
    small_later (past_opening o h) l' s =
        let m = examined_by (Small g) l p (Unusable κ i) (past_opening o h) in
        let r = small_reached (past_opening o h) in
        let j : place Uniform p + 0 < place Uniform m = omega (arith, (large_reached g.large_shape l (past Uniform 1 p) (past_placed o) h Uniform).0) in
        past_opening (there_later l l' p m r s Uniform 0 j, rw (nth_later l l' p m r s Uniform 0 j) o.1)
        (large_later g.large_shape l (past Uniform 1 p) (past_placed o) h l' s)

-- ---- every kind
module _ (l : Lent) (p : Positions) where
  -- it is never 17 where no position is above its slice
  pub halted_not_above : placed l p ≡ true → (g : Gamma) → ¬ GammaHalted g l p Above
  halted_not_above b (One s) = one_not_above s l p b
  halted_not_above b (Small g) = small_not_above g l p b
  halted_not_above b (Large g) = large_not_above g l p b

  module _ (b : placed l p ≡ true) (κ : Kind) (i : ℕ) where
    halted_reached : (g : Gamma) (h : GammaHalted g l p (Unusable κ i)) → Reached l p (examined_by g l p (Unusable κ i) h)
    unfolding one_trials
    halted_reached (One s) h = one_reached s l p b h
    halted_reached (Small g) h = small_reached g l p b h
    halted_reached (Large g) h = large_reached g l p b h

    halted_later : (g : Gamma) (h : GammaHalted g l p (Unusable κ i)) (l' : Lent) → SameTo (examined_by g l p (Unusable κ i) h) l l' → GammaHalted g l' p (Unusable κ i)
    unfolding one_trials
    halted_later (One s) h = one_later s l p b h
    halted_later (Small g) h = small_later g l p b h
    halted_later (Large g) h = large_later g l p b h

-- after 18, draws past the refused one change nothing
pub refused_later : (g : Gamma) (l l' : Lent) (p : Positions) {κ : Kind} {i : ℕ} {q : Positions} (b : placed l p ≡ true) (e : gamma_of g l p ≡ Err (Unusable κ i, q))
    → SameTo (examined_by g l p (Unusable κ i) ((refused_first g l p b).0 e).0) l l' → gamma_of g l' p ≡ Err (Unusable κ i, q)
refused_later g l l' p {κ} {i} b e s =
    let (h, z) = (refused_first g l p b).0 e in
    (refused_first g l' p (placed_later l l' p _ (halted_reached l p b κ i g h) s)).1 (halted_later l p b κ i g h l' s, z)

-- what was examined is one, whichever way the refusal was found
pub one_examined : (g : Gamma) (l : Lent) (p : Positions) (r : Refusal) (h i : GammaHalted g l p r) → examined_by g l p r h ≡ examined_by g l p r i
unfolding one_trials
one_examined (One s) l p r h i = refl
one_examined (Small g) l p r (at_opening (n, e)) (at_opening (m, d)) = refl
one_examined (Small g) l p r (at_opening (n, e)) (past_opening o i) = absurd (n o)
one_examined (Small g) l p r (past_opening o h) (at_opening (m, d)) = absurd (m o)
one_examined (Small g) l p r (past_opening o h) (past_opening u i) = let t = large_trials g.large_shape l (past Uniform 1 p) in ap t.examined (one_halt t h i)
one_examined (Large g) l p r h i = ap (large_trials g l p).examined (one_halt (large_trials g l p) h i)
