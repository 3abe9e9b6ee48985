-- What Fisher F's constructor made, as a call on plain numbers shows it. Definitions only.
use Rattle.std.specs.Prelude.{ℕ, List, [], ◌∷◌, ◌++◌, Float}
use Rattle.fisher_f.specs.FisherF.{Made, error_number}
use Rattle.kept.specs.Kept.{chi_kept, gamma_cells}
use Rattle.kept.specs.declared.GammaFields.{GammaFields}
use Rattle.reports.specs.Shown.{Shown, shown}

-- two kinds: 0 the numerator's, 1 the denominator's, each 0 at one degree of freedom, else its Gamma's; eleven fields: 0 to 4 the numerator's, those
-- of its Gamma in their order, 5 to 9 the denominator's, 10 dof_ratio
abbrev pub fields_shown : Float → GammaFields → GammaFields → List ℕ × List Float
fields_shown ratio numer denom = (numer.kind ∷ denom.kind ∷ [], gamma_cells numer ++ gamma_cells denom ++ ratio ∷ [])

abbrev pub fisher_shown : Made → Shown
fisher_shown = shown (λ f. fields_shown f.dof_ratio (chi_kept f.numer) (chi_kept f.denom)) error_number
