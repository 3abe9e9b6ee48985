-- What Gamma's constructor made, as a call on plain numbers shows it. Definitions only.
use Rattle.std.specs.Prelude.{ℕ, List, [], ◌∷◌, Float}
use Rattle.gamma.specs.Gamma.{Made, error_number}
use Rattle.kept.specs.Kept.{gamma_kept, gamma_cells}
use Rattle.kept.specs.declared.GammaFields.{GammaFields}
use Rattle.reports.specs.Shown.{Shown, shown}

-- one kind: 1 One, 2 Small, 3 Large; five fields: 0 lambda_inverse, 1 inv_shape, 2 scale, 3 c, 4 d
abbrev pub fields_shown : GammaFields → List ℕ × List Float
fields_shown k = (k.kind ∷ [], gamma_cells k)

abbrev pub gamma_shown : Made → Shown
gamma_shown = shown (λ g. fields_shown (gamma_kept g)) error_number
