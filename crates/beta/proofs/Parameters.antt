-- The constructor's tests settle what it answers: which parameter is refused, which way the parameters go and which algorithm is kept. So a sample
-- of a made sampler is said of its parameters.
use Prim.Native.Nat.{ℕ}
use native.Mathlib.Omega.{arith}
use mathlib.Core.Path.{◌≡◌, refl}
use mathlib.Core.Logic.{◌↔◌}
use mathlib.Core.Bool.{Bool, true, false, cond, not}
use lib.Ieee.{Float, lt, eq}
use Rattle.std.specs.Prelude.{Ok}
use Rattle.std.proofs.lemmas.Bool.{false_from_ne_true}
use Rattle.std.proofs.lemmas.Float.{eq-not_lt, T_from_true}
use Rattle.kernels.specs.Numbers.{nought, one}
use Rattle.draws.specs.Draws.{Lent, placed}
use Rattle.draws.specs.declared.Positions.{Positions}
use Rattle.beta.specs.declared.algorithm.BetaAlgorithm.TheVariants as algorithm
use Rattle.beta.specs.declared.Beta.{Beta}
use Rattle.beta.specs.Algorithm.{bb_made, bc_made}
use Rattle.beta.specs.Beta.{sorted_case, sorted_made, ordered, made_case, beta_made, number_of, beta_of, ParametersFound}
use Rattle.beta.proofs.Exact.{exact}

-- ---- what is made, and what is refused
case_number : (b c : Bool) (g : Beta) → number_of (made_case b c g) ≡ cond b (cond c 0 4) 3
unfolding made_case
case_number true true g = refl
case_number true false g = refl
case_number false c g = refl

case_makes : (b c : Bool) (g : Beta) {k : Beta} → made_case b c g ≡ Ok k → (b ≡ true) × (c ≡ true) × (k ≡ g)
unfolding made_case
case_makes true true g e = (refl, refl, cc)
case_makes true false g e = let z : ◌≡◌ {A = ℕ} 0 1 = cc in absurd (omega arith)
case_makes false c g e = let z : ◌≡◌ {A = ℕ} 0 1 = cc in absurd (omega arith)

module _ (a0 b0 : Float) where
  -- 3 exactly where alpha is not above 0, and else 4 exactly where beta is not
  pub made_number : number_of (beta_made a0 b0) ≡ cond (lt nought a0) (cond (lt nought b0) 0 4) 3
  unfolding beta_made
  made_number = case_number (lt nought a0) (lt nought b0) (ordered (lt a0 b0) a0 b0)

  pub makes : {g : Beta} → (beta_made a0 b0 ≡ Ok g) ↔ ((lt nought a0 ≡ true) × (lt nought b0 ≡ true) × (g ≡ ordered (lt a0 b0) a0 b0))
  unfolding beta_made made_case
  makes = (case_makes (lt nought a0) (lt nought b0) (ordered (lt a0 b0) a0 b0), λ h. rw (h.0, h.1, h.2))

  -- demand 3's sentence of the parameters
  pub made_exact : {g : Beta} → beta_made a0 b0 ≡ Ok g → (l : Lent) (p : Positions) → placed l p ≡ true → {v : Float} {q : Positions}
      → (beta_of g l p ≡ Ok (v, q)) ↔ ParametersFound a0 b0 l p v q
  made_exact e l p b = rw (makes.0 e).2 (exact (ordered (lt a0 b0) a0 b0) l p b)

-- ---- the switch: a0 < b0 decides, so that equal parameters go the other way
equal_not_below : (x y : Float) → eq x y ≡ true → lt x y ≡ false
equal_not_below x y e = false_from_ne_true (lt x y) (λ h. eq-not_lt x y (T_from_true (eq x y) e) (T_from_true (lt x y) h))

pub equal_switched : (a0 b0 : Float) → eq a0 b0 ≡ true → ordered (lt a0 b0) a0 b0 ≡ sorted_made b0 a0 true
unfolding ordered
equal_switched a0 b0 e = rw (equal_not_below a0 b0 e)

-- ---- the algorithm: a > 1 decides
pub above_one : (a b : Float) (s : Bool) → lt one a ≡ true → sorted_made a b s ≡ record { switched_params = s; algorithm = algorithm.BB (bb_made a b) }
unfolding sorted_made sorted_case
above_one a b s e = rw e

pub not_above_one : (a b : Float) (s : Bool) → lt one a ≡ false → sorted_made a b s ≡ record { switched_params = not s; algorithm = algorithm.BC (bc_made b a) }
unfolding sorted_made sorted_case
not_above_one a b s e = rw e

-- Beta(1, 1), switched and switched back
pub one_one : beta_made one one ≡ Ok (record { switched_params = false; algorithm = algorithm.BC (bc_made one one) })
unfolding lt beta_made made_case ordered sorted_made sorted_case
one_one = refl
