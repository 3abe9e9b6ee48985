-- Document 01, 'Sampler rules', FisherF(m, n). Definitions only.
use Rattle.std.specs.Prelude.{ℕ, Result, Ok, Err, Float}
use Rattle.kernels.specs.Numbers.{◌⊗◌, ◌⊘◌}
use Rattle.draws.specs.Draws.{Lent, Drawn}
use Rattle.draws.specs.Refusals.{number_by}
use Rattle.draws.specs.Search.{finished, chain, Chained, ChainHalted}
use Rattle.draws.specs.declared.{Positions.Positions, Refusal.Refusal}
use Rattle.chi_squared.specs.ChiSquared.{chi_made, chi_of, ChiFound, ChiHalted, ParametersFound as ChiParametersFound, Made as ChiMade}
use Rattle.fisher_f.specs.declared.{FisherF.FisherF, Error.Error, Error.TheVariants.MTooSmall, Error.TheVariants.NTooSmall}

abbrev pub Made : Type 0
Made = Result FisherF Error

-- 'check m, then n'; '6, 7 | Fisher m, then n, by rule 5'. It keeps n/m.
abbrev pub made_case : Float → ChiMade → ChiMade → Made
made_case ratio (Err e) d = Err MTooSmall
made_case ratio (Ok n) (Err e) = Err NTooSmall
made_case ratio (Ok n) (Ok d) = Ok (record { numer = n; denom = d; dof_ratio = ratio })

unfoldable pub fisher_made : Float → Float → Made
fisher_made m n = made_case (n ⊘ m) (chi_made m) (chi_made n)

abbrev pub error_number : Error → ℕ
error_number MTooSmall = 6
error_number NTooSmall = 7

abbrev pub number_of : Made → ℕ
number_of = number_by error_number

-- 'numerator first, then denominator; (numer/denom)·(n/m)'
abbrev pub fisher_value : Float → Float → Float → Float
fisher_value ratio n d = (n ⊘ d) ⊗ ratio

unfoldable pub fisher_of : FisherF → Lent → Positions → Drawn
fisher_of f l p = chain p (chi_of f.numer l p) (λ n q. finished (fisher_value f.dof_ratio n) q (chi_of f.denom l q))

-- Which draws a sample used, by number: the numerator's, and from its end the denominator's, at whose end this sample ends
abbrev pub FisherFound : FisherF → Lent → Positions → Float → Positions → Type 0
FisherFound f l = Chained (fisher_value f.dof_ratio) (ChiFound f.numer l) (ChiFound f.denom l)

-- the other outcome: the numerator's refusal; or, the numerator being found, the denominator's from its end
abbrev pub FisherHalted : FisherF → Lent → Positions → Refusal → Type 0
FisherHalted f l = ChainHalted (ChiFound f.numer l) (ChiHalted f.numer l) (ChiHalted f.denom l)

-- which draws a sample used, said of m and n themselves
abbrev pub ParametersFound : Float → Float → Lent → Positions → Float → Positions → Type 0
ParametersFound m n l = Chained (fisher_value (n ⊘ m)) (ChiParametersFound m l) (ChiParametersFound n l)
