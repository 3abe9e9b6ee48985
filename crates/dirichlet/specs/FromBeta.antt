-- Document 01, 'Sampler rules', Dirichlet: the Beta route and its vector. Definitions only.
use Rattle.std.specs.Prelude.{ℕ, suc, ◌-◌, ◌<◌, ◌≡◌, List, [], ◌∷◌, length, get_or, drop, Float}
use Rattle.std.specs.Float.{nan}
use Rattle.std.specs.Float.Ieee.{lt}
use Rattle.kernels.specs.Numbers.{◌⊕◌, ◌⊖◌, ◌⊗◌, nought, one}
use Rattle.draws.specs.Draws.{Lent, Drawn}
use Rattle.draws.specs.Fill.{Samples, samples, given, InTurn, FirstLacking}
use Rattle.draws.specs.declared.{Positions.Positions, Refusal.Refusal}
use Rattle.beta.specs.Beta.{ordered, beta_of, BetaFound, BetaHalted}
use Rattle.beta.specs.declared.Beta.{Beta}

-- 'component i is acc times [the] Beta [sample], then acc = acc·(1 - that Beta sample); the last component is acc'
unfoldable pub beta_vector : Float → List Float → List Float
beta_vector acc [] = acc ∷ []
beta_vector acc (b ∷ bs) = (acc ⊗ b) ∷ beta_vector (acc ⊗ (one ⊖ b)) bs

-- the route for n components, over component samplers given by index; NaN vectors are given as in the Rust
unfoldable pub beta_route : (ℕ → Positions → Drawn) → ℕ → Positions → Samples
beta_route s n p = given (beta_vector one) (samples s 0 (n - 1) p)

-- 'tail sums run from the last element to the first (the tail after i is the tail after i+1, plus element i+1)': the sum of what is left of a list
unfoldable pub tail_sum : List Float → Float
tail_sum [] = nought
tail_sum (a ∷ []) = a
tail_sum (a ∷ b ∷ rest) = tail_sum (b ∷ rest) ⊕ a

abbrev pub tail_after : List Float → ℕ → Float
tail_after alpha i = tail_sum (drop (suc i) alpha)

-- 'Beta(alpha_i, tail after i)'
abbrev pub beta_for : List Float → ℕ → Beta
beta_for alpha i = let a = get_or alpha i nan in let b = tail_after alpha i in ordered (lt a b) a b

unfoldable pub beta_at : List Float → Lent → ℕ → Positions → Drawn
beta_at alpha l i p = beta_of (beta_for alpha i) l p

abbrev pub betas_of : List Float → Lent → Positions → Samples
betas_of alpha l p = beta_route (beta_at alpha l) (length alpha) p

-- which draws a vector used, by number: those of the first component's sentence, then from its end those of the second, and so on
abbrev pub BetasFound : List Float → Lent → Positions → List Float → Positions → Type 0
BetasFound alpha l = InTurn (λ i. BetaFound (beta_for alpha i) l) (length alpha - 1)

-- the other outcome: the first component that can't be had, from where those before it ended
abbrev pub BetasLacking : List Float → Lent → Positions → Refusal → Type 0
BetasLacking alpha l = FirstLacking (λ i. BetaFound (beta_for alpha i) l) (λ i. BetaHalted (beta_for alpha i) l) (length alpha - 1)

-- ---- what the loops promise
-- the tail after each element but the last stands in the cell of its index
abbrev pub TailsIn : List Float → List Float → Type 0
TailsIn alpha left = (i : ℕ) → suc i < length alpha → get_or left i nan ≡ tail_after alpha i
