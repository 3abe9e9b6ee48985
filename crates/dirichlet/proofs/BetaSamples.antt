-- The loop of `beta_samples`: the cells below i have their components, acc is what is left of 1, and the cells from i on have their tails.
use Prim.Native.Nat.{ℕ, suc, ◌+◌, ◌-◌, ◌<◌, ◌≤◌}
use native.Mathlib.Numerals.{add-one}
use native.Mathlib.Omega.{arith}
use mathlib.Core.Path.{◌≡◌, refl, sym, ◌∙◌}
use mathlib.Core.List.{List, [], ◌∷◌, ◌++◌, append_assoc, append-nil}
use lib.ListN.{length, get_or, take, set, length-set}
use lib.Seq.{take-suc-set, take_all, get_or-set_other}
use lib.Ieee.{Float, nan}
use Rattle.kernels.specs.Numbers.{◌⊖◌, ◌⊗◌, one}
use Rattle.draws.specs.declared.Positions.{Positions}
use Rattle.draws.specs.declared.Refusal.{Refusal}
use Rattle.draws.proofs.InOrder.{Taking, taking_starts, taking_goes, taking_stops, taking_ends}
use Rattle.dirichlet.specs.FromBeta.{beta_vector, beta_route, tail_after, TailsIn}
use Rattle.dirichlet_alpha.specs.Answers.{Routed}
use Rattle.std.specs.Prelude.{Err, Ok}
use Rattle.draws.specs.Draws.{Drawn}

pub record Breaking (alpha : List Float) (s : ℕ → Positions → Drawn) (p : Positions) (i : ℕ) (acc : Float) (out : List Float) (q : Positions) : Type 0 where
  pub long : length out ≡ length alpha
  pub taken : List Float
  pub taking : Taking s p (length alpha - 1) i taken q
  pub so_far : (bs : List Float) → beta_vector one (taken ++ bs) ≡ take i out ++ beta_vector acc bs
  pub tail_at : (k : ℕ) → i ≤ k → suc k < length alpha → get_or out k nan ≡ tail_after alpha k

module _ (alpha : List Float) (s : ℕ → Positions → Drawn) (p : Positions) (out : List Float) where
  pub breaking_starts : length out ≡ length alpha → TailsIn alpha out → Breaking alpha s p 0 one out p
  breaking_starts e t = record { long = e; taken = []; taking = taking_starts s p _; so_far = λ bs. refl; tail_at = λ k m. t k }

module _ {alpha : List Float} {s : ℕ → Positions → Drawn} {p : Positions} {i : ℕ} {acc : Float} {out : List Float} {q : Positions} (f : Breaking alpha s p i acc out q) where
  pub breaking_next : i < length alpha - 1 → {b : Float} {q' : Positions} → s i q ≡ Ok (b, q') → Breaking alpha s p (i + 1) (acc ⊗ (one ⊖ b)) (set out i (acc ⊗ b)) q'
  unfolding beta_vector
  breaking_next l {b} {q'} e =
      let h : i < length out = omega (arith, f.long) in
      record {
        long = length-set out i (acc ⊗ b) ∙ f.long;
        taken = f.taken ++ b ∷ [];
        taking = rw (add-one i) (taking_goes f.taking l e);
        so_far = λ bs. rw (append_assoc, f.so_far (b ∷ bs), add-one i, take-suc-set out i (acc ⊗ b) h, append_assoc);
        tail_at = λ k m n. get_or-set_other out i k (acc ⊗ b) nan (λ z. omega arith) ∙ f.tail_at k (omega arith) n;
      }

  pub breaking_ends : 0 < length alpha → length alpha - 1 ≤ i → Routed (beta_route s (length alpha) p) (Ok q) (set out (length alpha - 1) acc)
  unfolding beta_route beta_vector
  breaking_ends z l =
      let i-is : i ≡ length alpha - 1 = omega (arith, f.taking.within) in
      let h : i < length out = omega (arith, f.long) in
      let t : set out i acc ≡ take i out ++ (acc ∷ []) = sym (take_all (suc i) (set out i acc) (omega (arith, length-set out i acc, f.long))) ∙ take-suc-set out i acc h in
      let v : beta_vector one f.taken ≡ set out i acc = rw append-nil at (f.so_far []) ∙ sym t in
      let e = taking_ends f.taking l in
      record { answer_is = rw e; cells_are = rw (e, v, i-is) }

  pub breaking_stops : i < length alpha - 1 → {r : Refusal} {q' : Positions} → s i q ≡ Err (r, q') → (left : List Float) → Routed (beta_route s (length alpha) p) (Err r) left
  unfolding beta_route
  breaking_stops l e left = let d = taking_stops f.taking l e in record { answer_is = rw d; cells_are = rw d }
