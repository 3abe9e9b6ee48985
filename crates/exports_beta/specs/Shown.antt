-- What Beta's constructor made, as a call on plain numbers shows it. Definitions only.
use Rattle.std.specs.Prelude.{ℕ, List, Float}
use Rattle.beta.specs.Beta.{Made, error_number}
use Rattle.kept.specs.Kept.{beta_kept, beta_kinds, beta_cells}
use Rattle.kept.specs.declared.BetaFields.{BetaFields}
use Rattle.reports.specs.Shown.{Shown, shown}

-- two kinds: 0 the algorithm, 1 BB or 2 BC, 1 switched_params, 0 or 1; seven fields: 0 a, 1 b, 2 alpha, 3 beta, 4 gamma, 5 kappa1, 6 kappa2
abbrev pub fields_shown : BetaFields → List ℕ × List Float
fields_shown k = (beta_kinds k, beta_cells k)

abbrev pub beta_shown : Made → Shown
beta_shown = shown (λ b. fields_shown (beta_kept b)) error_number
