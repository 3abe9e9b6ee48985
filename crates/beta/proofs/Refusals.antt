-- A trial is halted by an unusable draw that is there, so where the draws are the same up to that one it halts by it too, and each trial before it
-- comes out the same: the draws past an unusable one change nothing in its refusal. And 17 is answered only where a position is above its slice.
use Prim.Native.Nat.{ℕ, zero, suc, ◌+◌, ◌*◌, ◌<◌, ◌≤◌}
use native.Mathlib.Nat.{le_refl}
use native.Mathlib.Omega.{arith}
use borrow.Author.Tests.{ltb-true}
use mathlib.Core.Path.{◌≡◌, refl, sym, ◌∙◌, ap}
use mathlib.Core.Bool.{Bool, true, false, cond, ◌&&◌, true≢false, and-eq-true_iff}
use lib.ListN.{length}
use lib.Dec.{ltb}
use Rattle.std.specs.Prelude.{Err}
use Rattle.draws.specs.Draws.{Lent, place, placed, up_to, usable, there, nth, refusal_at}
use Rattle.draws.specs.Search.{Halts, Halted}
use Rattle.draws.specs.declared.Positions.{Positions}
use Rattle.draws.specs.declared.Kind.{Kind}
use Rattle.draws.specs.declared.Kind.TheVariants.{Uniform, Normal, Exponential}
use Rattle.draws.specs.declared.Refusal.TheVariants.{Above, Unusable}
use Rattle.draws.proofs.Reading.{unusable_there, not_above}
use Rattle.draws.specs.Later.{SameTo, Reached}
use Rattle.draws.proofs.Later.{placed_tells, placed_later, there_later, nth_later, Stuck, carried_halt}
use Rattle.beta.specs.declared.Beta.{Beta}
use Rattle.beta.specs.Beta.{beta_trials, beta_of, BetaHalted}
use Rattle.beta.proofs.Trials.{there_whole}
use Rattle.beta.proofs.Later.{alike}
use Rattle.beta.proofs.Exact.{refused_first}

module _ (g : Beta) (l l' : Lent) (p m : Positions) (r : Reached l p m) (s : SameTo m l l') (k : ℕ) where
  -- by its first uniform
  stuck_first : there Uniform l p (2 * k) ≡ true → usable Uniform (nth Uniform l p (2 * k)) ≡ false → place Uniform p + 2 * k < place Uniform m
      → Stuck (beta_trials g l p) (beta_trials g l' p) k
  unfolding beta_trials
  stuck_first h u i =
      let h' = there_later l l' p m r s Uniform (2 * k) i in
      let x = nth_later l l' p m r s Uniform (2 * k) i in
      record { halts_too = λ w. true≢false (sym (simp and-eq-true_iff at w.1).0 ∙ ap (usable Uniform) x ∙ u); refusal_same = rw (h', x, h, u) }

  -- by its second
  stuck_second : there Uniform l p (2 * k) ≡ true → usable Uniform (nth Uniform l p (2 * k)) ≡ true → there Uniform l p (2 * k + 1) ≡ true
      → Halts (beta_trials g l p) k → place Uniform p + (2 * k + 1) < place Uniform m → Stuck (beta_trials g l p) (beta_trials g l' p) k
  unfolding beta_trials
  stuck_second h u t halts i =
      let h' = there_later l l' p m r s Uniform (2 * k) (omega arith) in
      let x = nth_later l l' p m r s Uniform (2 * k) (omega arith) in
      record {
        halts_too = λ w. halts (rw (h, t), sym (alike g l l' p m r s k i).usable_same ∙ w.1);
        refusal_same = rw (h', x, h, u, there_later l l' p m r s Uniform (2 * k + 1) i, t);
      }

reach : (i : ℕ) (l : Lent) (p : Positions) → placed l p ≡ true → place Uniform p ≤ i → i < length l.uniforms → Reached l p (up_to Uniform i p)
reach i l p b m n Uniform = omega arith
reach i l p b m n Normal = (le_refl (place Normal p), placed_tells l p b Normal)
reach i l p b m n Exponential = (le_refl (place Exponential p), placed_tells l p b Exponential)

module _ (g : Beta) (l l' : Lent) (p : Positions) (b : placed l p ≡ true) {k : Kind} {i : ℕ} (h : Halted (beta_trials g l p) (Unusable k i))
    (s : SameTo (up_to Uniform i p) l l') where
  stays : (placed l' p ≡ true) × Halted (beta_trials g l' p) (Unusable k i)
  unfolding beta_trials
  stays = go (there Uniform l p (2 * h.at)) (usable Uniform (nth Uniform l p (2 * h.at))) refl refl
    where
      -- the draw at j is the unusable one
      by : (j : ℕ) → place Uniform p + 2 * h.at ≤ j → i ≡ j → ltb j (length l.uniforms) ≡ true
          → (Reached l p (up_to Uniform i p) → Stuck (beta_trials g l p) (beta_trials g l' p) h.at) → (placed l' p ≡ true) × Halted (beta_trials g l' p) (Unusable k i)
      by j m e y a =
          let r = reach i l p b (omega arith) (omega (arith, ltb-true j (length l.uniforms) y)) in
          (placed_later l l' p (up_to Uniform i p) r s, carried_halt h (λ o n. alike g l l' p (up_to Uniform i p) r s o (omega arith)) (a r))

      x : ℕ
      x = place Uniform p + 2 * h.at

      y : ℕ
      y = place Uniform p + (2 * h.at + 1)

      -- by the first uniform, where that is not there or not usable
      first : there Uniform l p (2 * h.at) && usable Uniform (nth Uniform l p (2 * h.at)) ≡ false → (ltb x (length l.uniforms) ≡ true) × (i ≡ x)
      first c = unusable_there Uniform l.uniforms x (rw c at h.refusal_is)

      go : (t u : Bool) → there Uniform l p (2 * h.at) ≡ t → usable Uniform (nth Uniform l p (2 * h.at)) ≡ u → (placed l' p ≡ true) × Halted (beta_trials g l' p) (Unusable k i)
      go true true t u =
          let (d, e) = unusable_there Uniform l.uniforms y (rw (t, u) at h.refusal_is) in
          by y (omega arith) e d (λ r. stuck_second g l l' p (up_to Uniform i p) r s h.at t u d h.halts (omega arith))
      go true false t u =
          let e = (first (rw (t, u))).1 in
          by x (omega arith) e t (λ r. stuck_first g l l' p (up_to Uniform i p) r s h.at t u (omega arith))
      go false u t v = absurd (true≢false (sym (rw t at (first (rw t)).0)))

-- after 18, draws past the refused one change nothing
pub refused_later : (g : Beta) (l l' : Lent) (p : Positions) {k : Kind} {i : ℕ} {q : Positions} → placed l p ≡ true
    → beta_of g l p ≡ Err (Unusable k i, q) → SameTo (up_to Uniform i p) l l' → beta_of g l' p ≡ Err (Unusable k i, q)
refused_later g l l' p b e s =
    let (h, z) = (refused_first g l p b).0 e in
    let (c, j) = stays g l l' p b h s in
    (refused_first g l' p c).1 (j, z)

-- ---- 17 is refused only above a slice: a search that starts within the uniforms asks for none further on than just past their end
module _ (g : Beta) (l : Lent) (p : Positions) where
  -- where the trials before k are whole, its first uniform is asked for within the slice or just past it
  starts_within : placed l p ≡ true → (k : ℕ) → ((j : ℕ) → j < k → (beta_trials g l p).whole j ≡ true) → place Uniform p + 2 * k ≤ length l.uniforms
  starts_within b zero w = omega (arith, placed_tells l p b Uniform)
  starts_within b (suc k) w = omega (arith, there_whole g l p k (w k (le_refl (suc k))))

  pub halted_not_above : placed l p ≡ true → ¬ BetaHalted g l p Above
  unfolding beta_trials
  halted_not_above b h = go (there Uniform l p (2 * h.at)) (usable Uniform (nth Uniform l p (2 * h.at))) refl h.refusal_is
    where
      x : ℕ
      x = place Uniform p + 2 * h.at

      y : ℕ
      y = place Uniform p + (2 * h.at + 1)

      within : x ≤ length l.uniforms
      within = starts_within b h.at (λ j i. (h.earlier j i).0)

      go : (t u : Bool) → there Uniform l p (2 * h.at) ≡ t → ¬ (Above ≡ cond (t && u) (refusal_at Uniform l.uniforms y) (refusal_at Uniform l.uniforms x))
      go true true t = not_above Uniform l.uniforms y (omega (arith, ltb-true x (length l.uniforms) t))
      go true false t = not_above Uniform l.uniforms x within
      go false u t = not_above Uniform l.uniforms x within
