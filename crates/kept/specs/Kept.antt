-- What a sampler keeps, by plain numbers: its kind and its fields in the Rust's own names and order; +0 for a field that its kind has not. Definitions only.
use Rattle.std.specs.Prelude.{ℕ, cond, List, [], ◌∷◌, Float}
use Rattle.kernels.specs.Numbers.{nought}
use Rattle.gamma.specs.declared.{Gamma.Gamma, Gamma.TheVariants.One, Gamma.TheVariants.Small, Gamma.TheVariants.Large}
use Rattle.chi_squared.specs.declared.{ChiSquared.ChiSquared, ChiSquared.TheVariants.DoFExactlyOne, ChiSquared.TheVariants.DoFAnythingElse}
use Rattle.beta.specs.declared.{Beta.Beta, algorithm.BetaAlgorithm.BetaAlgorithm}
use Rattle.beta.specs.declared.algorithm.BetaAlgorithm.TheVariants as algorithm
use Rattle.kept.specs.declared.{GammaFields.GammaFields, BetaFields.BetaFields}

-- 'The three kinds each carry their own floating-point numbers': 1 One, which 'keeps 1/rate'; 2 Small, 1/shape and a Large's; 3 Large, 'scale, d, c'
abbrev pub gamma_kept : Gamma → GammaFields
gamma_kept (One s) = record { kind = 1; lambda_inverse = s; inv_shape = nought; scale = nought; c = nought; d = nought }
gamma_kept (Small g) =
    let l = g.large_shape in
    record { kind = 2; lambda_inverse = nought; inv_shape = g.inv_shape; scale = l.scale; c = l.c; d = l.d }
gamma_kept (Large l) = record { kind = 3; lambda_inverse = nought; inv_shape = nought; scale = l.scale; c = l.c; d = l.d }

-- its fields in cells, in this order
abbrev pub gamma_cells : GammaFields → List Float
gamma_cells g = g.lambda_inverse ∷ g.inv_shape ∷ g.scale ∷ g.c ∷ g.d ∷ []

-- 'k = 1: a normal squared', kind 0. 'Else Gamma(0.5·k, 2)'
abbrev pub chi_kept : ChiSquared → GammaFields
chi_kept DoFExactlyOne = record { kind = 0; lambda_inverse = nought; inv_shape = nought; scale = nought; c = nought; d = nought }
chi_kept (DoFAnythingElse g) = gamma_kept g

-- 'kind BB keeps a, b, alpha, beta, gamma', 1; kind BC 'alpha, beta, kappa1, kappa2', 2; s is 1 where the parameters are switched
abbrev pub algorithm_kept : ℕ → BetaAlgorithm → BetaFields
algorithm_kept s (algorithm.BB g) = record { kind = 1; switched_params = s; a = g.a; b = g.b; alpha = g.alpha; beta = g.beta; gamma = g.gamma; kappa1 = nought; kappa2 = nought }
algorithm_kept s (algorithm.BC g) = record { kind = 2; switched_params = s; a = g.a; b = g.b; alpha = g.alpha; beta = g.beta; gamma = nought; kappa1 = g.kappa1; kappa2 = g.kappa2 }

abbrev pub beta_kept : Beta → BetaFields
beta_kept g = algorithm_kept (cond g.switched_params 1 0) g.algorithm

-- its kind and the switch, and its fields, in cells, in this order
abbrev pub beta_kinds : BetaFields → List ℕ
beta_kinds g = g.kind ∷ g.switched_params ∷ []

abbrev pub beta_cells : BetaFields → List Float
beta_cells g = g.a ∷ g.b ∷ g.alpha ∷ g.beta ∷ g.gamma ∷ g.kappa1 ∷ g.kappa2 ∷ []
