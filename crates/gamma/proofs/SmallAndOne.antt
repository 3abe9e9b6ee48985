-- Each kind from what its parts give: One from the exponential read, Small from its uniform and Large's search, whose values it scales.
use Prim.Native.Nat.{ℕ, zero, suc, ◌<◌}
use native.Mathlib.Nat.{add-zero}
use native.Mathlib.Omega.{arith}
use mathlib.Core.Path.{◌≡◌, sym}
use mathlib.Core.Bool.{true, true≢false}
use lib.ListN.{length}
use lib.Ieee.{Float}
use Rattle.kernels.specs.Numbers.{◌⊗◌}
use Rattle.draws.specs.Draws.{Lent, read, Drawn}
use Rattle.draws.specs.Search.{from, searched, finished}
use Rattle.draws.specs.declared.Positions.{Positions}
use Rattle.draws.specs.declared.Kind.TheVariants.{Exponential, Uniform}
use Rattle.draws.specs.declared.Refusal.{Refusal}
use Rattle.draws.proofs.Reading.{usable_is, refused_is}
use Rattle.draws.proofs.Searches.{none_before, refuses}
use Rattle.gamma.specs.Large.{large_trials}
use Rattle.gamma.proofs.LargeSearch.{scaled}
use Rattle.gamma.specs.declared.small.GammaSmallShape.{GammaSmallShape}
use Rattle.gamma.specs.Small.{one_trials, small_value, small_from, one_of, small_of}
use Rattle.std.specs.Prelude.{Err, Ok}

-- ---- One: its only trial is number 0
pub one_ends : (s : Float) (l : Lent) (p : Positions) (k : ℕ) → (one_trials s l p).whole k ≡ true → k < 1
unfolding one_trials
one_ends s l p zero e = omega arith
one_ends s l p (suc k) e = absurd (true≢false (sym e))

module _ (s : Float) (l : Lent) (p : Positions) where
  pub one_none : {r : Refusal} → read Exponential l.exponentials p ≡ Err r → Err (r, p) ≡ one_of s l p
  unfolding one_of one_trials
  one_none e =
      let h = refused_is Exponential l.exponentials p e in
      sym (refuses (one_trials s l p) p 1 (one_ends s l p) record {
        at = 0;
        halts = λ i. true≢false (rw (simp add-zero at i.0, simp add-zero at i.1) at h.0);
        earlier = none_before (one_trials s l p);
        refusal_is = simp add-zero h.1;
      })

  pub one_drawn : {e : Float} {q : Positions} → read Exponential l.exponentials p ≡ Ok (e, q) → Ok (e ⊗ s, q) ≡ one_of s l p
  unfolding one_of one_trials from
  one_drawn d =
      let h = usable_is Exponential l.exponentials p d in
      simp (h.2, h.3, add-zero, h.0, h.1)

-- ---- Small
module _ (l : Lent) (g : GammaSmallShape) (p : Positions) where
  pub small_none : {r : Refusal} → read Uniform l.uniforms p ≡ Err r → Err (r, p) ≡ small_of g l p
  unfolding small_of small_from
  small_none d = rw d

  pub small_drawn : {u : Float} {q : Positions} → read Uniform l.uniforms p ≡ Ok (u, q) → {x : Drawn} → x ≡ searched (large_trials g.large_shape l q) q (length l.normals)
      → finished (small_value g u) p x ≡ small_of g l p
  unfolding small_of small_from
  small_drawn {u} {q} d e = rw d (scaled l (small_value g u) g.large_shape p q e)
