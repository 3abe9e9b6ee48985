-- A trial read from where it starts comes to the same as by its number: one law a way it ends, as the code comes to it. Past trial k stands
-- trial k + 1, and a whole trial has its normal, so that the trials end with the slice.
use Prim.Native.Nat.{ℕ, suc, ◌+◌, ◌<◌}
use native.Mathlib.Nat.{add-zero, zero-add, add-suc, add_assoc}
use native.Mathlib.Numerals.{add-one}
use native.Mathlib.Omega.{arith}
use borrow.Author.Tests.{ltb-true}
use mathlib.Core.Path.{◌≡◌, refl, sym, ◌∙◌, ap}
use mathlib.Core.Bool.{Bool, true, false, cond, true≢false, and-eq-true_iff, not, ◌&&◌, ◌||◌}
use lib.ListN.{length, get_or}
use lib.Dec.{ltb}
use lib.Ieee.{Float, nan}
use Rattle.draws.specs.Draws.{Lent, place, past, usable, refusal_at, read, Trial}
use Rattle.draws.specs.Search.{settled, trial}
use Rattle.draws.specs.declared.Positions.{Positions}
use Rattle.draws.specs.declared.Kind.TheVariants.{Uniform, Normal}
use Rattle.draws.specs.declared.Refusal.{Refusal}
use Rattle.draws.proofs.Reading.{usable_is, refused_is}
use Rattle.draws.proofs.Walks.{Walk}
use Rattle.gamma.specs.declared.large.GammaLargeShape.{GammaLargeShape}
use Rattle.gamma.specs.Large.{drops, large_v, squeezes, log_accepts, accepts, used, large_trials}
use Rattle.std.specs.Prelude.{Err, None, Ok, Some}

-- ---- how the tests of a trial settle it
module _ (v : Float) (q : Positions) (r s : Refusal) where
  no_first : (a b c d t : Bool) → a && c ≡ false → settled (a && b) (c && d) t v q (cond (a && c) r s) ≡ Err s
  no_first true b true d t e = absurd (true≢false e)
  no_first true true false d t e = refl
  no_first true false false d t e = refl
  no_first false b c d t e = refl

  no_second : (a c t : Bool) → a && c ≡ false → settled a c t v q r ≡ Err r
  no_second true true t e = absurd (true≢false e)
  no_second true false t e = refl
  no_second false c t e = refl

  both : (t : Bool) → settled true true t v q r ≡ cond t (Ok (Some v, q)) (Ok (None, q))
  both true = refl
  both false = refl

module _ (g : GammaLargeShape) (l : Lent) where
  -- the trial that starts at p, its draws counted from there
  module _ (p : Positions) where
    abbrev x : Float
    x = get_or l.normals (place Normal p) nan

    abbrev u : Float
    u = get_or l.uniforms (place Uniform p) nan

    abbrev has_x : Bool
    has_x = ltb (place Normal p) (length l.normals)

    abbrev has_u : Bool
    has_u = ltb (place Uniform p) (length l.uniforms)

    abbrev no_x : Refusal
    no_x = refusal_at Normal l.normals (place Normal p)

    abbrev no_u : Refusal
    no_u = refusal_at Uniform l.uniforms (place Uniform p)

    abbrev beyond : Positions
    beyond = past Uniform (cond (drops g x) 0 1) (past Normal 1 p)

    abbrev begun : Trial
    begun =
        settled (has_x && (drops g x || has_u)) (usable Normal x && (drops g x || usable Uniform u)) (not (drops g x) && accepts g x u)
        (large_v g x) beyond (cond (has_x && usable Normal x) no_u no_x)

    first : trial (large_trials g l p) 0 ≡ begun
    unfolding large_trials used
    first = simp (add-zero, zero-add)

    pub no_normal : {r : Refusal} → read Normal l.normals p ≡ Err r → Err r ≡ trial (large_trials g l p) 0
    no_normal e =
        let h = refused_is Normal l.normals p e in
        rw h.1 (sym (first ∙ no_first (large_v g x) beyond no_u no_x has_x (drops g x || has_u) (usable Normal x) (drops g x || usable Uniform u) (not (drops g x) && accepts g x u) h.0))

    module _ {y : Float} {q : Positions} (e : read Normal l.normals p ≡ Ok (y, q)) where
      normal_is : (ltb (place Normal p) (length l.normals) ≡ true) × (usable Normal x ≡ true) × (y ≡ x) × (q ≡ past Normal 1 p)
      normal_is = usable_is Normal l.normals p e

      pub dropped : drops g y ≡ true → Ok (None, q) ≡ trial (large_trials g l p) 0
      dropped d =
          let h = normal_is in
          let d : drops g x ≡ true = rw h.2 at d in
          let rejected : Positions → Trial = λ z. Ok (None, z) in
          rw first (rw (h.3, h.0, h.1, d) (ap rejected (simp add-zero)))

      module _ (d : drops g y ≡ false) where
        reads : drops g x ≡ false
        reads = rw normal_is.2 at d

        pub no_uniform : {r : Refusal} → read Uniform l.uniforms q ≡ Err r → Err r ≡ trial (large_trials g l p) 0
        no_uniform f =
            let h = normal_is in
            let i = refused_is Uniform l.uniforms (past Normal 1 p) (rw h.3 at f) in
            rw first (rw (i.1, h.0, h.1, reads) (sym (no_second (large_v g x) (past Uniform 1 (past Normal 1 p)) no_u no_x has_u (usable Uniform u) (accepts g x u) i.0)))

        module _ {w : Float} {q' : Positions} (f : read Uniform l.uniforms q ≡ Ok (w, q')) where
          tested : trial (large_trials g l p) 0 ≡ cond (accepts g y w) (Ok (Some (large_v g y), q')) (Ok (None, q'))
          tested =
              let h = normal_is in
              let i = usable_is Uniform l.uniforms (past Normal 1 p) (rw h.3 at f) in
              first ∙ rw (h.2, i.2, i.3, h.0, h.1, reads, i.0, i.1) (both _ _ _ no_x (accepts g x u))

          pub squeezed : squeezes y w ≡ true → Ok (Some (large_v g y), q') ≡ trial (large_trials g l p) 0
          unfolding accepts
          squeezed s = rw (tested, s)

          module _ (s : squeezes y w ≡ false) where
            pub passed : log_accepts g y w ≡ true → Ok (Some (large_v g y), q') ≡ trial (large_trials g l p) 0
            unfolding accepts
            passed t = rw (tested, s, t)

            pub failed : log_accepts g y w ≡ false → Ok (None, q') ≡ trial (large_trials g l p) 0
            unfolding accepts
            failed t = rw (tested, s, t)

  -- ---- from trial to trial
  abbrev pub spot : Positions → ℕ → Positions
  spot p k = past Uniform (used g l p k) (past Normal k p)

  same : (p : Positions) (k : ℕ) → begun (spot p k) ≡ trial (large_trials g l p) k
  unfolding large_trials used
  same p k = simp (add-one, add-suc, add_assoc)

  -- a whole trial's normal is there
  pub there_whole : (p : Positions) (k : ℕ) → (large_trials g l p).whole k ≡ true → place Normal p + k < length l.normals
  unfolding large_trials
  there_whole p k e = ltb-true _ _ ((and-eq-true_iff _ _).0 e).0

  pub large_ends : (p : Positions) (k : ℕ) → (large_trials g l p).whole k ≡ true → k < length l.normals
  large_ends p k e = omega (arith, there_whole p k e)

  module _ (p : Positions) where
    pub walk : Walk (large_trials g l) p (length l.normals) (spot p)
    unfolding used large_trials
    walk = record {
      same = λ k. first (spot p k) ∙ same p k;
      first = simp add-zero;
      onward = λ k. refl;
      ends = large_ends p;
    }

    -- a whole trial has its normal, and the next one starts past it
    pub moves : (k : ℕ) → (large_trials g l p).whole k ≡ true → (place Normal (spot p k) < length l.normals) × (place Normal (spot p k) < place Normal (spot p (suc k)))
    moves k e = (there_whole p k e, omega arith)
