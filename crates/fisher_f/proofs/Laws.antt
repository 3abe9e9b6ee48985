-- The constructor is chi-squared's, of m and then of n. A sample is one of chi-squared's, then another that starts where the first ended, so that
-- what is known of those two is carried over.
use mathlib.Core.Path.{◌≡◌, refl, sym, ◌∙◌}
use mathlib.Core.Bool.{Bool, true, false, cond}
use lib.Ieee.{Float}
use Rattle.kernels.specs.Numbers.{◌⊘◌}
use Rattle.draws.specs.Draws.{Lent, Drawn}
use Rattle.draws.specs.declared.Positions.{Positions}
use Rattle.draws.specs.Later.{Steady}
use Rattle.draws.proofs.Sequencing.{steady_chain, steady_finished}
use Rattle.chi_squared.proofs.Laws as chi-laws
use Rattle.chi_squared.proofs.Laws.{too_small, chi_sampler}
use Rattle.fisher_f.specs.declared.FisherF.{FisherF}
use Rattle.fisher_f.specs.FisherF.{made_case, fisher_made, number_of, fisher_value, fisher_of}
use Rattle.fisher_f.specs.declared.Error.TheVariants.{MTooSmall, NTooSmall}
use Rattle.chi_squared.specs.declared.Error.TheVariants.{DoFTooSmall}
use Rattle.std.specs.Prelude.{Err, Ok}

-- ---- the constructor
-- the sampler of an m and an n that rule 5 does not refuse
abbrev pub fisher_sampler : Float → Float → FisherF
fisher_sampler m n = record { numer = chi_sampler m; denom = chi_sampler n; dof_ratio = n ⊘ m }

module _ (m n : Float) where
  pub made_is : fisher_made m n ≡ cond (too_small m) (Err MTooSmall) (cond (too_small n) (Err NTooSmall) (Ok (fisher_sampler m n)))
  unfolding fisher_made
  made_is = rw (chi-laws.made_is m, chi-laws.made_is n) (go (too_small m) (too_small n))
    where
      go : (a b : Bool) → made_case (n ⊘ m) (cond a (Err DoFTooSmall) (Ok (chi_sampler m))) (cond b (Err DoFTooSmall) (Ok (chi_sampler n)))
          ≡ cond a (Err MTooSmall) (cond b (Err NTooSmall) (Ok (fisher_sampler m n)))
      go true b = refl
      go false true = refl
      go false false = refl

  -- '6, 7 | Fisher m, then n, by rule 5'
  pub made_number : number_of (fisher_made m n) ≡ cond (too_small m) 6 (cond (too_small n) 7 0)
  made_number = rw made_is (go (too_small m) (too_small n))
    where
      go : (a b : Bool) → number_of (cond a (Err MTooSmall) (cond b (Err NTooSmall) (Ok (fisher_sampler m n)))) ≡ cond a 6 (cond b 7 0)
      go true b = refl
      go false true = refl
      go false false = refl

-- ---- a sample
module _ (f : FisherF) where
  -- a refusal keeps the positions, a sample's are further on, and draws beyond those change nothing in it
  pub steady : Steady (fisher_of f)
  unfolding fisher_of
  steady = steady_chain (chi-laws.steady f.numer) (λ n. steady_finished (fisher_value f.dof_ratio n) (chi-laws.steady f.denom))

  module _ (l : Lent) (p : Positions) where
    pub one_outcome : {d d' : Drawn} → d ≡ fisher_of f l p → d' ≡ fisher_of f l p → d ≡ d'
    one_outcome e i = e ∙ sym i
