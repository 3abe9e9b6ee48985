-- A scanned alpha's elements are above 0, hence each tail is: Beta::new refuses none of them.
use Prim.Native.Nat.{ℕ, suc, ◌<◌}
use native.Mathlib.Nat.{le_of_lt}
use mathlib.Core.Path.{◌≡◌, refl}
use mathlib.Core.List.{List, [], ◌∷◌}
use mathlib.Core.Bool.{true}
use lib.ListN.{length, get_or, drop}
use lib.Seq.{drop-cons}
use lib.Ieee.{Float, nan, lt}
use Rattle.kernels.specs.Numbers.{nought}
use Rattle.draws.specs.Draws.{Lent, Drawn}
use Rattle.draws.specs.declared.Positions.{Positions}
use Rattle.beta.specs.Beta.{beta_made, beta_of}
use Rattle.beta.specs.declared.Beta.{Beta}
use Rattle.beta.proofs.Parameters.{makes}
use Rattle.dirichlet_alpha.specs.Alpha.{scanned}
use Rattle.dirichlet_alpha.proofs.Positives.{Least, sums, is_above, first_least, dropped, element_above}
use Rattle.dirichlet.specs.FromBeta.{tail_sum, tail_after, beta_for, beta_at}
use Rattle.std.specs.Prelude.{Ok}

tail_least : (x : Float) (xs : List Float) (j : ℕ) → scanned (x ∷ xs) j ≡ Ok tt → Least (tail_sum (x ∷ xs))
unfolding tail_sum
tail_least x [] j h = (first_least x [] j h).0
tail_least x (y ∷ ys) j h = let (a, rest) = first_least x (y ∷ ys) j h in sums (tail_sum (y ∷ ys)) x (tail_least y ys (suc j) rest) a

module _ (alpha : List Float) (h : scanned alpha 0 ≡ Ok tt) (i : ℕ) where
  pub tail_above : suc i < length alpha → lt nought (tail_after alpha i) ≡ true
  tail_above l =
      let (k, e) = dropped (suc i) 0 alpha h in
      let d = drop-cons alpha (suc i) nan l in
      rw d (is_above _ (tail_least (get_or alpha (suc i) nan) (drop (suc (suc i)) alpha) k (rw (← d) e)))

  -- so FailedToCreateBeta can't arise
  pub beta_never_refused : suc i < length alpha → beta_made (get_or alpha i nan) (tail_after alpha i) ≡ Ok (beta_for alpha i)
  beta_never_refused l = (makes (get_or alpha i nan) (tail_after alpha i)).1 (element_above alpha h i (le_of_lt l), tail_above l, refl)

  -- a component's sampler is the one that is made of alpha
  pub beta_drawn : (l : Lent) (q : Positions) {x : Drawn} → suc i < length alpha → {b : Float} → b ≡ tail_after alpha i → {g : Beta} → beta_made (get_or alpha i nan) b ≡ Ok g → x ≡ beta_of g l q
      → beta_at alpha l i q ≡ x
  unfolding beta_at
  beta_drawn l q n t m e = cc (beta_never_refused n)
