-- Both outcomes of a sample are said by number, so that a fill is too: by the laws of any fill.
use mathlib.Core.Path.{◌≡◌}
use mathlib.Core.Logic.{◌↔◌}
use mathlib.Core.Bool.{false}
use Rattle.std.specs.Prelude.{Err}
use Rattle.draws.specs.Draws.{Lent, placed}
use Rattle.draws.specs.Exactly.{Exactly, FillsExactly}
use Rattle.draws.specs.declared.Positions.{Positions}
use Rattle.draws.specs.declared.Refusal.TheVariants.{Above}
use Rattle.draws.proofs.Exactly as exactness
use Rattle.draws.proofs.FillsExact.{fills_exactly}
use Rattle.beta.specs.declared.Beta.{Beta}
use Rattle.beta.specs.Beta.{beta_of, BetaFound, BetaHalted}
use Rattle.beta.proofs.Exact.{exact, refused_first, refused_above}
use Rattle.beta.proofs.Later.{steady}
use Rattle.beta.proofs.Refusals.{halted_not_above}

pub exactly : (g : Beta) → Exactly (beta_of g) (BetaFound g) (BetaHalted g)
exactly g = record { sampled = λ l p b. exact g l p b; refused = λ l p b. refused_first g l p b; not_above = halted_not_above g; above = refused_above g }

-- '17 | a position above its slice's length'
pub above_exact : (g : Beta) (l : Lent) (p : Positions) {q : Positions} → (beta_of g l p ≡ Err (Above, q)) ↔ ((placed l p ≡ false) × (q ≡ p))
above_exact g = exactness.above_exact (exactly g)

-- and of a fill, by the law of any fill
pub fill_exactly : (g : Beta) → FillsExactly (beta_of g) (BetaFound g) (BetaHalted g)
fill_exactly g = fills_exactly (exactly g) (steady g)
