-- How many draws trials use: whole trials' draws are there, so the positions past them are within the slices, and a uniform that a trial reads
-- stands before the place where any later trial starts.
use Prim.Native.Nat.{ℕ, zero, suc, ◌+◌, ◌<◌, ◌≤◌}
use native.Mathlib.Nat.{le_refl, lt-suc_self, eq-or-lt_of_le, le_of_suc-le-suc}
use native.Mathlib.Omega.{arith}
use borrow.Author.Tests.{ltb-true}
use mathlib.Core.Path.{◌≡◌, refl}
use mathlib.Core.Logic.{⊎_elim}
use mathlib.Core.Bool.{Bool, true, false, ◌&&◌, ◌||◌}
use lib.ListN.{length}
use Rattle.draws.specs.Draws.{Lent, place, placed, there, nth}
use Rattle.draws.specs.declared.Positions.{Positions}
use Rattle.draws.specs.declared.Kind.TheVariants.{Uniform, Normal, Exponential}
use Rattle.draws.specs.Later.{Reached}
use Rattle.draws.proofs.Later.{placed_tells}
use Rattle.gamma.specs.declared.large.GammaLargeShape.{GammaLargeShape}
use Rattle.gamma.specs.Large.{drops, used, large_trials}
use Rattle.gamma.proofs.Trials.{there_whole, spot}

module _ (g : GammaLargeShape) (l : Lent) (p : Positions) where
  reads_one : (k : ℕ) → drops g (nth Normal l p k) ≡ false → used g l p (suc k) ≡ used g l p k + 1
  unfolding used
  reads_one k e = rw e

  grows : (k n : ℕ) → k ≤ n → used g l p k ≤ used g l p n
  unfolding used
  grows k zero m = let e : k ≡ 0 = omega arith in rw e (le_refl 0)
  grows k (suc n) m =
      ⊎_elim {C = used g l p k ≤ used g l p (suc n)} (λ e. rw e (le_refl (used g l p (suc n)))) (λ h. omega (arith, grows k n (le_of_suc-le-suc h))) (eq-or-lt_of_le m)

  pub reads_before : (k n : ℕ) → k < n → drops g (nth Normal l p k) ≡ false → used g l p k < used g l p n
  reads_before k n m d = omega (arith, reads_one k d, grows (suc k) n m)

  -- the uniform of a whole trial that reads one
  there_uniform : (k : ℕ) → drops g (nth Normal l p k) ≡ false → (large_trials g l p).whole k ≡ true → place Uniform p + used g l p k < length l.uniforms
  unfolding large_trials
  there_uniform k d e = ltb-true _ _ (second (there Normal l p k) (there Uniform l p (used g l p k)) (rw d at e))
    where
      second : (a b : Bool) → a && (false || b) ≡ true → b ≡ true
      second true b e = e
      second false true e = refl
      second false false e = e

  abbrev pub AllWhole : ℕ → Type 0
  AllWhole n = (k : ℕ) → k < n → (large_trials g l p).whole k ≡ true

  uniforms_in : place Uniform p ≤ length l.uniforms → (n : ℕ) → AllWhole n → place Uniform p + used g l p n ≤ length l.uniforms
  unfolding used
  uniforms_in b zero h = omega arith
  uniforms_in b (suc n) h = go (drops g (nth Normal l p n)) refl (uniforms_in b n (λ k m. h k (omega arith)))
    where
      go : (d : Bool) → drops g (nth Normal l p n) ≡ d → place Uniform p + used g l p n ≤ length l.uniforms → place Uniform p + used g l p (suc n) ≤ length l.uniforms
      go true d i = rw d (omega arith)
      go false d i = rw d (omega (arith, there_uniform n d (h n (lt-suc_self n))))

  normals_in : place Normal p ≤ length l.normals → (n : ℕ) → AllWhole n → place Normal p + n ≤ length l.normals
  normals_in b zero h = omega arith
  normals_in b (suc n) h = omega (arith, there_whole g l p n (h n (lt-suc_self n)))

  pub reached_spot : placed l p ≡ true → (n : ℕ) → AllWhole n → Reached l p (spot g l p n)
  reached_spot b n h Uniform = (omega arith, uniforms_in (placed_tells l p b Uniform) n h)
  reached_spot b n h Normal = (omega arith, normals_in (placed_tells l p b Normal) n h)
  reached_spot b n h Exponential = (le_refl (place Exponential p), placed_tells l p b Exponential)
