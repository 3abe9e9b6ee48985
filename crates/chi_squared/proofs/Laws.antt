-- The constructor's answer is settled by its two tests. A sample is that of one draw or of Gamma, whose laws are carried over.
use mathlib.Core.Path.{◌≡◌, refl, sym, ◌∙◌}
use mathlib.Core.Bool.{Bool, true, false, cond, not, ◌&&◌}
use lib.Ieee.{Float, lt, eq}
use Rattle.kernels.specs.Numbers.{◌⊗◌, nought, one, two, half}
use Rattle.draws.specs.Draws.{Lent, Drawn}
use Rattle.draws.specs.declared.Positions.{Positions}
use Rattle.draws.specs.declared.Kind.TheVariants.{Normal}
use Rattle.draws.specs.Later.{Steady}
use Rattle.draws.proofs.Sequencing.{steady_draw, steady_finished, steady_placed}
use Rattle.draws.proofs.Stages.{of_cond}
use Rattle.gamma.specs.Gamma.{sampler, gamma_made}
use Rattle.gamma.proofs.Parameters.{made_when}
use Rattle.gamma.proofs.Later as later
use Rattle.chi_squared.specs.declared.ChiSquared.{ChiSquared}
use Rattle.chi_squared.specs.declared.ChiSquared.TheVariants.{DoFExactlyOne, DoFAnythingElse}
use Rattle.chi_squared.specs.ChiSquared.{made_case, chi_made, number_of, squared, chi_of}
use Rattle.chi_squared.specs.declared.Error.TheVariants.{DoFTooSmall}
use Rattle.std.specs.Prelude.{Err, Ok}

-- ---- the constructor
-- rule 5: 'not k = 1 and not 0.5·k > 0'
abbrev pub too_small : Float → Bool
too_small k = not (eq k one) && not (lt nought (half ⊗ k))

-- the sampler of any other k
abbrev pub chi_sampler : Float → ChiSquared
chi_sampler k = cond (eq k one) DoFExactlyOne (DoFAnythingElse (sampler (half ⊗ k) two))

module _ (k : Float) where
  pub made_is : chi_made k ≡ cond (too_small k) (Err DoFTooSmall) (Ok (chi_sampler k))
  unfolding chi_made made_case chi_of
  made_is = go (eq k one) (lt nought (half ⊗ k))
    where
      go : (a b : Bool) → made_case a b k ≡ cond (not a && not b) (Err DoFTooSmall) (Ok (cond a DoFExactlyOne (DoFAnythingElse (sampler (half ⊗ k) two))))
      go true b = refl
      go false true = refl
      go false false = refl

  -- '5 | chi-squared or Student: not k = 1 and not 0.5·k > 0'
  pub made_number : number_of (chi_made k) ≡ cond (too_small k) 5 0
  made_number = rw made_is (of_cond number_of (too_small k) _ _)

  -- Gamma's constructor refuses none of what it is given here
  pub gamma_made_lem : lt nought (half ⊗ k) ≡ true → gamma_made (half ⊗ k) two ≡ Ok (sampler (half ⊗ k) two)
  unfolding lt
  gamma_made_lem b = made_when (half ⊗ k) two b refl

-- ---- a sample
-- a refusal keeps the positions, a sample's are further on, and draws beyond those change nothing in it
pub steady : (c : ChiSquared) → Steady (chi_of c)
unfolding chi_of
steady DoFExactlyOne = steady_placed (steady_finished squared (steady_draw Normal))
steady (DoFAnythingElse g) = later.steady g

pub one_outcome : (c : ChiSquared) (l : Lent) (p : Positions) {d d' : Drawn} → d ≡ chi_of c l p → d' ≡ chi_of c l p → d ≡ d'
one_outcome c l p e i = e ∙ sym i
