-- Document 01, 'Sampler rules', Dirichlet: the Gamma route and its vector. Definitions only.
use Rattle.std.specs.Prelude.{ℕ, ◌≡◌, List, [], ◌∷◌, map, length, get_or, Float, Ok, Err}
use Rattle.std.specs.Float.{nan}
use Rattle.kernels.specs.Numbers.{◌⊕◌, ◌⊗◌, ◌⊘◌, nought, one}
use Rattle.draws.specs.Draws.{Lent, Draw, Drawn}
use Rattle.draws.specs.Fill.{Samples, all, stopped, samples, given, InTurn, FirstLacking}
use Rattle.draws.specs.declared.{Positions.Positions, Refusal.Refusal}
use Rattle.gamma.specs.Gamma.{sampler, gamma_of, GammaFound, GammaHalted}
use Rattle.gamma.specs.declared.Gamma.{Gamma}
use Rattle.dirichlet_alpha.specs.Answers.{kept}

-- 'summed from +0 left to right, each times 1/sum'
unfoldable pub sum_from : Float → List Float → Float
sum_from sum [] = sum
sum_from sum (v ∷ vs) = sum_from (sum ⊕ v) vs

unfoldable pub gamma_vector : List Float → List Float
gamma_vector vs = map (λ (v : Float). v ⊗ (one ⊘ sum_from nought vs)) vs

-- the route for n components, over component samplers given by index; NaN vectors are given as in the Rust
unfoldable pub gamma_route : (ℕ → Positions → Drawn) → ℕ → Positions → Samples
gamma_route s n p = given gamma_vector (samples s 0 n p)

-- 'Gamma(alpha_i, 1)'
abbrev pub gamma_for : List Float → ℕ → Gamma
gamma_for alpha i = sampler (get_or alpha i nan) one

unfoldable pub gamma_at : List Float → Lent → ℕ → Positions → Drawn
gamma_at alpha l i p = gamma_of (gamma_for alpha i) l p

abbrev pub gammas_of : List Float → Lent → Positions → Samples
gammas_of alpha l p = gamma_route (gamma_at alpha l) (length alpha) p

-- which draws a vector used, by number: those of the first component's sentence, then from its end those of the second, and so on
abbrev pub GammasFound : List Float → Lent → Positions → List Float → Positions → Type 0
GammasFound alpha l = InTurn (λ i. GammaFound (gamma_for alpha i) l) (length alpha)

-- the other outcome: the first component that can't be had, from where those before it ended
abbrev pub GammasLacking : List Float → Lent → Positions → Refusal → Type 0
GammasLacking alpha l = FirstLacking (λ i. GammaFound (gamma_for alpha i) l) (λ i. GammaHalted (gamma_for alpha i) l) (length alpha)

-- ---- what the loop promises
abbrev pub outcome_of_lem : (List Float → Float) → Samples → Draw
outcome_of_lem f (all vs q) = Ok (f vs, q)
outcome_of_lem f (stopped r) = Err r

pub record Drew (x : Samples) (f : List Float → Float) (r : Draw) (left : List Float) : Type 0 where
  pub outcome_is : r ≡ outcome_of_lem f x
  pub cells_are : left ≡ kept left x
