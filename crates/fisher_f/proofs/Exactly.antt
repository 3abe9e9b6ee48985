-- Both outcomes of a sample are said by number: it is one of chi-squared's, then another that starts where the first ended, and those are so said. So a
-- fill is too.
use Prim.Native.Nat.{ℕ}
use native.Mathlib.Omega.{arith}
use mathlib.Core.Path.{◌≡◌, refl}
use mathlib.Core.Logic.{◌↔◌}
use mathlib.Core.Bool.{true, false}
use lib.Ieee.{Float}
use Rattle.kernels.specs.Numbers.{◌⊘◌}
use Rattle.draws.specs.Draws.{Lent, place, placed, ZeroNext}
use Rattle.draws.specs.Search.{at_first, at_second}
use Rattle.draws.specs.declared.Positions.{Positions}
use Rattle.draws.specs.declared.Kind.TheVariants.{Exponential}
use Rattle.draws.specs.declared.Refusal.{Refusal}
use Rattle.draws.specs.declared.Refusal.TheVariants.{Above, Unusable}
use Rattle.draws.specs.Exactly.{Exactly, FillsExactly}
use Rattle.draws.proofs.Exactly as exactness
use Rattle.draws.proofs.FillsExact.{fills_exactly}
use Rattle.draws.proofs.Stages.{exactly_chain}
use Rattle.gamma.specs.declared.Gamma.TheVariants.{One}
use Rattle.gamma.proofs.Zeros.{zero_halted}
use Rattle.chi_squared.specs.ChiSquared.{chi_made, ChiFound, Made as ChiMade}
use Rattle.chi_squared.specs.declared.ChiSquared.TheVariants.{DoFAnythingElse}
use Rattle.chi_squared.proofs.Laws.{steady as chi-steady}
use Rattle.chi_squared.proofs.Exactly as chi-laws
use Rattle.fisher_f.specs.declared.FisherF.{FisherF}
use Rattle.fisher_f.specs.FisherF.{made_case, fisher_made, fisher_value, fisher_of, FisherFound, FisherHalted, ParametersFound}
use Rattle.fisher_f.proofs.Laws.{steady}
use Rattle.chi_squared.specs.declared.Error.TheVariants.{DoFTooSmall}
use Rattle.std.specs.Prelude.{Err, Ok}

-- a sampler that was made keeps what chi-squared's constructor made of m and of n, and n/m
module _ (m n : Float) where
  made_from : {f : FisherF} → fisher_made m n ≡ Ok f
      → (chi_made m ≡ Ok f.numer) × (chi_made n ≡ Ok f.denom) × (f.dof_ratio ≡ n ⊘ m)
  unfolding fisher_made
  made_from {f} e = go (chi_made m) (chi_made n) e
    where
      go : (x y : ChiMade) → made_case (n ⊘ m) x y ≡ Ok f → (x ≡ Ok f.numer) × (y ≡ Ok f.denom) × (f.dof_ratio ≡ n ⊘ m)
      go (Err DoFTooSmall) y e = let z : ◌≡◌ {A = ℕ} 0 1 = cc in absurd (omega arith)
      go (Ok a) (Err DoFTooSmall) e = let z : ◌≡◌ {A = ℕ} 0 1 = cc in absurd (omega arith)
      go (Ok a) (Ok b) e = let h : f ≡ record { numer = a; denom = b; dof_ratio = n ⊘ m } = cc in rw h (refl, refl, refl)

module _ (f : FisherF) where
  -- which draws a sample used, and what a refused one lacked: 'numerator first, then denominator'
  pub exactly : Exactly (fisher_of f) (FisherFound f) (FisherHalted f)
  unfolding fisher_of
  exactly = exactly_chain (chi-laws.exactly f.numer) (chi-steady f.numer) (fisher_value f.dof_ratio) (chi-laws.exactly f.denom)

  module _ (l : Lent) (p : Positions) where
    -- '17 | a position above its slice's length'
    pub above_exact : {q : Positions} → (fisher_of f l p ≡ Err (Above, q)) ↔ ((placed l p ≡ false) × (q ≡ p))
    above_exact = exactness.above_exact exactly l p

    pub refused_above : placed l p ≡ false → fisher_of f l p ≡ Err (Above, p)
    refused_above = exactly.above l p

    module _ (b : placed l p ≡ true) where
      pub exact : {v : Float} {q : Positions} → (fisher_of f l p ≡ Ok (v, q)) ↔ FisherFound f l p v q
      exact = exactly.sampled l p b

      -- a refusal at valid positions is that of the draw or trial that can't be had, and its positions are those lent
      pub refused_first : {r : Refusal} {q : Positions} → (fisher_of f l p ≡ Err (r, q)) ↔ (FisherHalted f l p r × (q ≡ p))
      refused_first = exactly.refused l p b

      -- two findings coincide, and none is found beside a refusal
      pub one_found : {v v' : Float} {q q' : Positions} → FisherFound f l p v q → FisherFound f l p v' q' → (v ≡ v') × (q ≡ q')
      one_found = exactness.one_found exactly l p b

      pub not_both : {v : Float} {q : Positions} {r : Refusal} → FisherFound f l p v q → ¬ FisherHalted f l p r
      not_both = exactness.not_both exactly l p b

      -- of m and n themselves, where rule 5 refuses neither
      pub made_exact : (m n : Float) → fisher_made m n ≡ Ok f → {v : Float} {q : Positions} → (fisher_of f l p ≡ Ok (v, q)) ↔ ParametersFound m n l p v q
      unfolding fisher_of
      made_exact m n e =
          let (c, d, r) = made_from m n e in
          rw (← r) ((exactly_chain (chi-laws.made_exactly m c) (chi-steady f.numer) (fisher_value f.dof_ratio) (chi-laws.made_exactly n d)).sampled l p b)

-- document 02, #105, 'Refusals: 18, kind 3, for either zero': of the numerator; and of the denominator, where the numerator is found and ends
module _ (f : FisherF) (s : Float) (l : Lent) (p : Positions) (b : placed l p ≡ true) where
  pub zero_refused : f.numer ≡ DoFAnythingElse (One s) → ZeroNext l p → fisher_of f l p ≡ Err (Unusable Exponential (place Exponential p), p)
  zero_refused c z = (refused_first f l p b).1 (at_first (rw c (zero_halted s l p z)), refl)

  pub zero_refused_after : f.denom ≡ DoFAnythingElse (One s) → (x : Float) (m : Positions) → ChiFound f.numer l p x m → ZeroNext l m
      → fisher_of f l p ≡ Err (Unusable Exponential (place Exponential m), p)
  zero_refused_after c x m n z = (refused_first f l p b).1 (at_second n (rw c (zero_halted s l m z)), refl)

-- and of a fill, by the law of any fill
pub fill_exactly : (f : FisherF) → FillsExactly (fisher_of f) (FisherFound f) (FisherHalted f)
fill_exactly f = fills_exactly (exactly f) (steady f)
