-- What PERT's constructor made, as a call on plain numbers shows it. Definitions only.
use Rattle.std.specs.Prelude.{ℕ, List, ◌∷◌, Float}
use Rattle.pert.specs.Pert.{Made, error_number}
use Rattle.kept.specs.Kept.{beta_kept, beta_kinds, beta_cells}
use Rattle.kept.specs.declared.BetaFields.{BetaFields}
use Rattle.reports.specs.Shown.{Shown, shown}

-- two kinds, its Beta's; nine fields: 0 min, 1 range, 2 to 8 its Beta's in their order
abbrev pub fields_shown : Float → Float → BetaFields → List ℕ × List Float
fields_shown min range k = (beta_kinds k, min ∷ range ∷ beta_cells k)

abbrev pub pert_shown : Made → Shown
pert_shown = shown (λ t. fields_shown t.min t.range (beta_kept t.beta)) error_number
