-- The loop of `gamma_samples`: the cells below i have their samples, and sum is theirs.
use Prim.Native.Nat.{ℕ, ◌+◌, ◌<◌, ◌≤◌}
use native.Mathlib.Numerals.{add-one}
use native.Mathlib.Omega.{arith}
use mathlib.Core.Path.{◌≡◌, refl}
use mathlib.Core.List.{List, [], ◌∷◌, ◌++◌}
use lib.ListN.{length, take, set}
use lib.Seq.{take-suc-set, take_all}
use lib.Ieee.{Float}
use Rattle.kernels.specs.Numbers.{◌⊕◌, nought}
use Rattle.draws.specs.Fill.{Samples, all, stopped, samples}
use Rattle.draws.specs.declared.Positions.{Positions}
use Rattle.draws.specs.declared.Refusal.{Refusal}
use Rattle.draws.proofs.Pairs.{ok_parts}
use Rattle.draws.proofs.InOrder.{Storing, storing_starts, storing_goes, storing_stops, storing_ends}
use Rattle.dirichlet_alpha.specs.Answers.{kept}
use Rattle.dirichlet.specs.FromGamma.{sum_from, outcome_of_lem, Drew}
use Rattle.std.specs.Prelude.{Err, Ok}
use Rattle.draws.specs.Draws.{Drawn}

pub record Drawing (s : ℕ → Positions → Drawn) (p : Positions) (n i : ℕ) (sum : Float) (out : List Float) (q : Positions) : Type 0 where
  pub storing : Storing s p n i out q
  pub summed : sum ≡ sum_from nought (take i out)

sum_more : (a : Float) (vs : List Float) (v : Float) → sum_from a (vs ++ (v ∷ [])) ≡ sum_from a vs ⊕ v
unfolding sum_from
sum_more a [] v = refl
sum_more a (w ∷ vs) v = sum_more (a ⊕ w) vs v

pub drawing_starts : (s : ℕ → Positions → Drawn) (p : Positions) {n : ℕ} (out : List Float) → length out ≡ n → Drawing s p n 0 nought out p
unfolding sum_from
drawing_starts s p out e = record { storing = storing_starts s p out e; summed = refl }

module _ {s : ℕ → Positions → Drawn} {p : Positions} {n i : ℕ} {sum : Float} {out : List Float} {q : Positions} (f : Drawing s p n i sum out q) where
  pub drawing_next : i < n → {v : Float} {q' : Positions} → s i q ≡ Ok (v, q') → Drawing s p n (i + 1) (sum ⊕ v) (set out i v) q'
  drawing_next l {v} e =
      let h : i < length out = omega (arith, f.storing.long) in
      record { storing = storing_goes f.storing l e; summed = rw (add-one i, take-suc-set, sum_more, ← f.summed) }

  pub drawing_ends : n ≤ i → Drew (samples s 0 n p) (sum_from nought) (Ok (sum, q)) out
  drawing_ends l =
      let e = storing_ends f.storing l in
      record { outcome_is = rw (e, f.summed, take_all i out (omega (arith, f.storing.long))); cells_are = rw e }

  pub drawing_stops : i < n → {r : Refusal} {q' : Positions} → s i q ≡ Err (r, q') → (left : List Float) → Drew (samples s 0 n p) (sum_from nought) (Err r) left
  drawing_stops l e left = let d = storing_stops f.storing l e in record { outcome_is = rw d; cells_are = rw d }

-- ---- what an outcome says of its samples
module _ (f : List Float → Float) where
  pub drew_past : {left : List Float} (x : Samples) {sum : Float} {q : Positions} → Ok (sum, q) ≡ outcome_of_lem f x → left ≡ kept left x → (x ≡ all left q) × (sum ≡ f left)
  drew_past (all vs z) e d = let (a, b) = ok_parts e in (cc, cc)
  drew_past (stopped r) e d = absurd cc

  pub drew_refused : (x : Samples) {r : Refusal} → Err r ≡ outcome_of_lem f x → x ≡ stopped r
  drew_refused (all vs q) e = absurd cc
  drew_refused (stopped r) e = cc
