-- Draws that a call did not come to change nothing in it: each trial up to the one that settles it reads only draws before the new positions, or,
-- where it is refused by 18, before the positions examined; and where the draws are the same, so is the trial.
use Prim.Native.Nat.{ℕ, zero, suc, ◌+◌, ◌<◌, ◌≤◌}
use native.Mathlib.Nat.{le_of_suc-le-suc}
use native.Mathlib.Omega.{arith}
use borrow.Author.Tests.{ltb-true}
use mathlib.Core.Path.{◌≡◌, refl, sym, ap, subst, fun_ext}
use mathlib.Core.Bool.{Bool, true, false, true≢false}
use lib.ListN.{length}
use lib.Ieee.{Float}
use Rattle.draws.specs.Draws.{Lent, place, placed, there, nth, read, Draw}
use Rattle.draws.specs.Search.{searched, valued, as_sample, chain}
use Rattle.draws.specs.declared.Positions.{Positions}
use Rattle.draws.specs.declared.Kind.TheVariants.{Uniform, Normal, Exponential}
use Rattle.draws.proofs.Searches.{finish}
use Rattle.draws.specs.Later.{SameTo, Reached, Steady}
use Rattle.draws.proofs.Later.{there_later, nth_later, past_reached, Alike, alike_valued, whole_to}
use Rattle.draws.proofs.Sequencing.{Near, steady_search, steady_draw, steady_chain, steady_placed}
use Rattle.gamma.specs.declared.large.GammaLargeShape.{GammaLargeShape}
use Rattle.gamma.specs.declared.small.GammaSmallShape.{GammaSmallShape}
use Rattle.gamma.specs.declared.Gamma.{Gamma}
use Rattle.gamma.specs.declared.Gamma.TheVariants.{One, Small, Large}
use Rattle.gamma.specs.Large.{drops, used, large_trials, large_value, large_of}
use Rattle.gamma.specs.Small.{one_trials, small_value, small_from, one_of, small_of}
use Rattle.gamma.specs.Gamma.{kind_of, gamma_of}
use Rattle.gamma.proofs.Trials.{large_ends}
use Rattle.gamma.proofs.SmallAndOne.{one_ends}
use Rattle.gamma.proofs.Counts.{reads_before, reached_spot}
use Rattle.std.specs.Prelude.{Err, Ok}

-- ---- Large's trials among draws that are the same up to m
module _ (g : GammaLargeShape) (l l' : Lent) (p m : Positions) (r : Reached l p m) (s : SameTo m l l') where
  pub same_used : (n : ℕ) → place Normal p + n ≤ place Normal m → used g l' p n ≡ used g l p n
  unfolding used
  same_used zero h = refl
  same_used (suc n) h = rw (same_used n (omega arith), nth_later l l' p m r s Normal n (omega arith))

  module _ (k : ℕ) (h : place Normal p + k < place Normal m) where
    has : there Normal l' p k ≡ true
    has = there_later l l' p m r s Normal k h

    x : nth Normal l' p k ≡ nth Normal l p k
    x = nth_later l l' p m r s Normal k h

    c : used g l' p k ≡ used g l p k
    c = same_used k (omega arith)

    pub alike : (drops g (nth Normal l p k) ≡ false → place Uniform p + used g l p k < place Uniform m) → Alike (large_trials g l p) (large_trials g l' p) k
    unfolding large_trials used
    alike i = go (drops g (nth Normal l p k)) refl
      where
        go : (b : Bool) → drops g (nth Normal l p k) ≡ b → Alike (large_trials g l p) (large_trials g l' p) k
        go true d = record {
          whole_too = simp (has, x, d);
          usable_same = simp (x, d);
          accepted_same = simp (x, d);
          value_same = simp x;
          after_same = simp (x, c, d);
        }
        go false d =
            let has_u = there_later l l' p m r s Uniform (used g l p k) (i d) in
            let u = nth_later l l' p m r s Uniform (used g l p k) (i d) in
            record {
              whole_too = simp (has, x, c, d, has_u);
              usable_same = simp (x, c, d, u);
              accepted_same = simp (x, c, d, u);
              value_same = simp x;
              after_same = simp (x, c, d);
            }

near : (f : Float → Float) (g : GammaLargeShape) → Near (λ L p. valued f (large_trials g L p)) (λ L. length L.normals)
unfolding large_trials
near f g = record {
  ends = large_ends g;
  reach = λ L p b h. rw h.after_is (reached_spot g L p b (suc h.at) (λ k m. whole_to h k (le_of_suc-le-suc m)));
  alike = λ L L' p {v} {q} h r s k m.
      let n = ap (place Normal) h.after_is in
      let u = ap (place Uniform) h.after_is in
      alike_valued f (alike g L L' p q r s k (omega arith) (λ d. omega (arith, reads_before g L p k (suc h.at) (omega arith) d)));
}

-- ---- One's trial
module _ (s : Float) where
  one_there : (l : Lent) (p : Positions) (k : ℕ) → (one_trials s l p).whole k ≡ true → place Exponential p < length l.exponentials
  unfolding one_trials
  one_there l p zero e = let h : place Exponential p + 0 < length l.exponentials = ltb-true _ _ e in omega arith
  one_there l p (suc k) e = absurd (true≢false (sym e))

  pub one_alike : (l l' : Lent) (p m : Positions) → Reached l p m → SameTo m l l' → place Exponential p < place Exponential m → (k : ℕ) → k < 1 → Alike (one_trials s l p) (one_trials s l' p) k
  unfolding one_trials
  one_alike l l' p m r i h zero n =
      let e = nth_later l l' p m r i Exponential 0 (omega arith) in
      record { whole_too = there_later l l' p m r i Exponential 0 (omega arith); usable_same = simp e; accepted_same = refl; value_same = simp e; after_same = refl }
  one_alike l l' p m r i h (suc k) n = absurd (omega arith)

  one_near : Near (one_trials s) (λ L. 1)
  unfolding one_trials
  one_near = record {
    ends = one_ends s;
    reach = λ L p b h. rw h.after_is (past_reached Exponential 1 L p b (omega (arith, one_there L p h.at h.takes.0)));
    alike = λ L L' p {v} {q} h r i k m. one_alike L L' p q r i (omega (arith, ap (place Exponential) h.after_is)) k (omega (arith, one_ends s L p h.at h.takes.0));
  }

-- ---- Small: the opening uniform, then a search from past it
small_chain : (g : GammaSmallShape) (l : Lent) (p : Positions) →
    chain p (as_sample p (read Uniform l.uniforms p)) (λ u q. searched (valued (small_value g u) (large_trials g.large_shape l q)) q (length l.normals))
    ≡ small_of g l p
unfolding small_of small_from
small_chain g l p = go (read Uniform l.uniforms p)
  where
    go : (d : Draw) → chain p (as_sample p d) (λ u q. searched (valued (small_value g u) (large_trials g.large_shape l q)) q (length l.normals)) ≡ small_from g l p d
    go (Ok (u, q)) = finish (λ w. w) (valued (small_value g u) (large_trials g.large_shape l q)) p q (length l.normals) (large_ends g.large_shape l q)
    go (Err r) = refl

kind_steady : (g : Gamma) → Steady (kind_of g)
unfolding kind_of one_of large_of
kind_steady (One s) = steady_search (one_near s)
kind_steady (Small g) =
    subst Steady (fun_ext (λ l. fun_ext (small_chain g l))) (steady_chain (steady_draw Uniform) (λ u. steady_search (near (small_value g u) g.large_shape)))
kind_steady (Large g) = steady_search (near (large_value g) g)

-- a refusal keeps the positions, a sample's are further on, and draws beyond those change nothing in it
pub steady : (g : Gamma) → Steady (gamma_of g)
unfolding gamma_of
steady g = steady_placed (kind_steady g)

pub later : (g : Gamma) (l l' : Lent) (p : Positions) → placed l p ≡ true → {v : Float} {q : Positions} → gamma_of g l p ≡ Ok (v, q) → SameTo q l l' → gamma_of g l' p ≡ Ok (v, q)
later g l l' p b = (steady g).later l l' p b
