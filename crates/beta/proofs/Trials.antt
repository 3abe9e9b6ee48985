-- A trial read from where it starts comes to the same as by its number: one law a way it ends, as the code comes to it. Past trial k stands
-- trial k + 1, and a whole trial has its uniforms, so that the trials end with the slice.
use Prim.Native.Nat.{ℕ, suc, ◌+◌, ◌*◌, ◌<◌}
use native.Mathlib.Nat.{add-zero, add_assoc}
use native.Mathlib.Omega.{arith}
use borrow.Author.Tests.{ltb-true}
use mathlib.Core.Path.{◌≡◌, refl, sym, ◌∙◌, ap}
use mathlib.Core.List.{List, []}
use mathlib.Core.Bool.{Bool, true, false, cond, ◌&&◌, true≢false, and-eq-true_iff}
use lib.ListN.{length, get_or}
use lib.Dec.{ltb}
use lib.Ieee.{Float, nan}
use Rattle.std.specs.Prelude.{Option, option_map, MatchOption, IsSomeAnd, Err, None, Ok, Some}
use Rattle.draws.specs.Draws.{Lent, lent, place, past, usable, refusal_at, read, Trial}
use Rattle.draws.specs.Search.{settled, trial}
use Rattle.draws.specs.declared.Positions.{Positions}
use Rattle.draws.specs.declared.Kind.TheVariants.{Uniform}
use Rattle.draws.specs.declared.Refusal.{Refusal}
use Rattle.draws.proofs.Reading.{usable_is, refused_is}
use Rattle.draws.proofs.Walks.{Walk}
use Rattle.beta.specs.declared.Beta.{Beta}
use Rattle.beta.specs.Algorithm.{judged, accepts_of, w_at, tested_of}
use Rattle.beta.specs.Beta.{final_of, beta_trials}

-- ---- how the tests of a trial settle it
no_first : (a b c d t : Bool) (v : Float) (q : Positions) (r s : Refusal) → a && c ≡ false → settled (a && b) (c && d) t v q (cond (a && c) r s) ≡ Err s
no_first true b true d t v q r s e = absurd (true≢false e)
no_first true true false d t v q r s e = refl
no_first true false false d t v q r s e = refl
no_first false b c d t v q r s e = refl

no_second : (b d t : Bool) (v : Float) (q : Positions) (r : Refusal) → b && d ≡ false → settled b d t v q r ≡ Err r
no_second true true t v q r e = absurd (true≢false e)
no_second true false t v q r e = refl
no_second false d t v q r e = refl

-- where both draws are usable, it answers the tested w, finished
settled_mapped : (b : Bool) (f : Float → Float) (w : Float) (q : Positions) (r : Refusal) → settled true true b (f w) q r ≡ Ok (option_map f (judged b w), q)
settled_mapped true f w q r = refl
settled_mapped false f w q r = refl

-- what a call of `map` comes to, by what the closure answers
pub mapped : (f : Float → Float) (o m : Option Float) {P : Float → Float → Type 0} → ((w v : Float) → P w v → v ≡ f w)
    → MatchOption o (m ≡ None) (λ w. IsSomeAnd m (P w)) → m ≡ option_map f o
mapped f None m h e = e
mapped f (Some w) (Some v) h e = rw (h w v e) refl
mapped f (Some w) None h e = elim e [ ]

-- where trial k of those from p starts
abbrev pub spot : Positions → ℕ → Positions
spot p k = past Uniform (2 * k) p

module _ (g : Beta) (l : Lent) where
  -- the trial that starts at p, its draws counted from there
  module _ (p : Positions) where
    abbrev x : Float
    x = get_or l.uniforms (place Uniform p) nan

    abbrev y : Float
    y = get_or l.uniforms (place Uniform p + 1) nan

    abbrev x_there : Bool
    x_there = ltb (place Uniform p) (length l.uniforms)

    abbrev y_there : Bool
    y_there = ltb (place Uniform p + 1) (length l.uniforms)

    abbrev begun : Trial
    begun =
        settled (x_there && y_there)
        (usable Uniform x && usable Uniform y)
        (accepts_of g.algorithm x y)
        (final_of g (w_at g.algorithm x))
        (past Uniform 2 p)
        (cond (x_there && usable Uniform x) (refusal_at Uniform l.uniforms (place Uniform p + 1)) (refusal_at Uniform l.uniforms (place Uniform p)))

    first : trial (beta_trials g l p) 0 ≡ begun
    unfolding beta_trials
    first = simp add-zero

    pub no_u1 : {r : Refusal} → read Uniform l.uniforms p ≡ Err r → Err r ≡ trial (beta_trials g l p) 0
    no_u1 e =
        let h = refused_is Uniform l.uniforms p e in
        rw h.1 (sym (first ∙ no_first x_there y_there (usable Uniform x) _ _ _ _ _ _ h.0))

    module _ {u1 : Float} {q : Positions} (e : read Uniform l.uniforms p ≡ Ok (u1, q)) where
      u1_is : (x_there ≡ true) × (usable Uniform x ≡ true) × (u1 ≡ x) × (q ≡ past Uniform 1 p)
      u1_is = usable_is Uniform l.uniforms p e

      pub no_u2 : {r : Refusal} → read Uniform l.uniforms q ≡ Err r → Err r ≡ trial (beta_trials g l p) 0
      no_u2 f =
          let h = u1_is in
          let i = refused_is Uniform l.uniforms (past Uniform 1 p) (rw h.3 at f) in
          rw first (rw (i.1, h.0, h.1) (sym (no_second y_there (usable Uniform y) _ _ _ _ i.0)))

      module _ {u2 : Float} {q' : Positions} (f : read Uniform l.uniforms q ≡ Ok (u2, q')) where
        whole : trial (beta_trials g l p) 0 ≡ settled true true (accepts_of g.algorithm u1 u2) (final_of g (w_at g.algorithm u1)) q' (refusal_at Uniform l.uniforms (place Uniform p + 1))
        whole =
            let h = u1_is in
            let i = usable_is Uniform l.uniforms (past Uniform 1 p) (rw h.3 at f) in
            first ∙ rw (h.2, i.2, i.3, h.0, h.1, i.0, i.1) (simp add_assoc)

        pub tried : {o m : Option Float} → o ≡ tested_of g.algorithm u1 u2 → m ≡ option_map (final_of g) o → ◌≡◌ {A = Trial} (Ok (m, q')) (trial (beta_trials g l p) 0)
        tried s t = rw (t, s) (sym (whole ∙ settled_mapped (accepts_of g.algorithm u1 u2) (final_of g) (w_at g.algorithm u1) q' _))

        pub accepted : {w v : Float} → tested_of g.algorithm u1 u2 ≡ Some w → v ≡ final_of g w → ◌≡◌ {A = Trial} (Ok (Some v, q')) (trial (beta_trials g l p) 0)
        accepted s t = tried (sym s) (ap (λ (x : Float). Some x) t)

        pub rejected : tested_of g.algorithm u1 u2 ≡ None → ◌≡◌ {A = Trial} (Ok (None, q')) (trial (beta_trials g l p) 0)
        rejected s = tried (sym s) refl

  -- ---- from trial to trial
  same : (p : Positions) (k : ℕ) → begun (spot p k) ≡ trial (beta_trials g l p) k
  unfolding beta_trials
  same p k = simp add_assoc

  -- a whole trial's uniforms are there
  pub there_whole : (p : Positions) (k : ℕ) → (beta_trials g l p).whole k ≡ true → place Uniform p + (2 * k + 1) < length l.uniforms
  unfolding beta_trials
  there_whole p k e = ltb-true _ _ (simp and-eq-true_iff at e).1

  pub beta_ends : (p : Positions) (k : ℕ) → (beta_trials g l p).whole k ≡ true → k < length l.uniforms
  beta_ends p k e = omega (arith, there_whole p k e)

  module _ (p : Positions) where
    pub walk : Walk (beta_trials g l) p (length l.uniforms) (spot p)
    unfolding beta_trials
    walk = record {
      same = λ k. first (spot p k) ∙ same p k;
      first = simp add-zero;
      onward = λ k. ap (λ (n : ℕ). past Uniform n p) (omega arith);
      ends = beta_ends p;
    }

    -- a whole trial has its uniforms, and the next one starts past them
    pub moves : (k : ℕ) → (beta_trials g l p).whole k ≡ true → (place Uniform (spot p k) < length l.uniforms) × (place Uniform (spot p k) < place Uniform (spot p (suc k)))
    moves k e = (omega (arith, there_whole p k e), omega arith)

-- normals and exponentials don't matter
pub among_all : (g : Beta) (us ns es : List Float) (p : Positions) {x : Trial} → trial (beta_trials g (lent us [] []) p) 0 ≡ x → trial (beta_trials g (lent us ns es) p) 0 ≡ x
unfolding beta_trials
among_all g us ns es p e = e
