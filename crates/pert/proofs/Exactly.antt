-- Both outcomes of a sample are said by number, so that a fill is too: by the laws of any fill.
use mathlib.Core.Path.{◌≡◌}
use mathlib.Core.Logic.{◌↔◌}
use mathlib.Core.Bool.{false}
use Rattle.std.specs.Prelude.{Err}
use Rattle.draws.specs.Draws.{Lent, placed}
use Rattle.draws.specs.Exactly.{Exactly, FillsExactly}
use Rattle.draws.specs.declared.Positions.{Positions}
use Rattle.draws.specs.declared.Refusal.TheVariants.{Above}
use Rattle.draws.proofs.Exactly as exactness
use Rattle.draws.proofs.FillsExact.{fills_exactly}
use Rattle.beta.specs.Beta.{BetaHalted}
use Rattle.beta.proofs.Refusals.{halted_not_above}
use Rattle.pert.specs.declared.Pert.{Pert}
use Rattle.pert.specs.Pert.{pert_of, PertFound}
use Rattle.pert.proofs.Laws.{exact, refused_first, refused_above, steady}

pub exactly : (t : Pert) → Exactly (pert_of t) (PertFound t) (BetaHalted t.beta)
exactly t = record { sampled = λ l p b. exact t l p b; refused = λ l p b. refused_first t l p b; not_above = halted_not_above t.beta; above = refused_above t }

-- '17 | a position above its slice's length'
pub above_exact : (t : Pert) (l : Lent) (p : Positions) {q : Positions} → (pert_of t l p ≡ Err (Above, q)) ↔ ((placed l p ≡ false) × (q ≡ p))
above_exact t = exactness.above_exact (exactly t)

-- and of a fill, by the law of any fill
pub fill_exactly : (t : Pert) → FillsExactly (pert_of t) (PertFound t) (BetaHalted t.beta)
fill_exactly t = fills_exactly (exactly t) (steady t)
