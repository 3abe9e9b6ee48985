-- Both outcomes of a sample are said by number, so that a fill is too: by the laws of any fill.
use mathlib.Core.Path.{◌≡◌}
use mathlib.Core.Logic.{◌↔◌}
use mathlib.Core.Bool.{false}
use Rattle.draws.specs.Draws.{Lent, placed}
use Rattle.draws.specs.Exactly.{Exactly, FillsExactly}
use Rattle.draws.specs.declared.Positions.{Positions}
use Rattle.draws.specs.declared.Refusal.TheVariants.{Above}
use Rattle.draws.proofs.Exactly as exactness
use Rattle.draws.proofs.FillsExact.{fills_exactly}
use Rattle.gamma.specs.declared.Gamma.{Gamma}
use Rattle.gamma.specs.Gamma.{gamma_of, GammaFound, GammaHalted}
use Rattle.gamma.proofs.Exact.{exact, refused_first, refused_above}
use Rattle.gamma.proofs.Later.{steady}
use Rattle.gamma.proofs.Refusals.{halted_not_above}
use Rattle.std.specs.Prelude.{Err}

pub exactly : (g : Gamma) → Exactly (gamma_of g) (GammaFound g) (GammaHalted g)
exactly g = record { sampled = λ l p b. exact g l p b; refused = λ l p b. refused_first g l p b; not_above = λ l p b. halted_not_above l p b g; above = refused_above g }

-- '17 | a position above its slice's length'
pub above_exact : (g : Gamma) (l : Lent) (p : Positions) {q : Positions} → (gamma_of g l p ≡ Err (Above, q)) ↔ ((placed l p ≡ false) × (q ≡ p))
above_exact g = exactness.above_exact (exactly g)

-- and of a fill, by the law of any fill
pub fill_exactly : (g : Gamma) → FillsExactly (gamma_of g) (GammaFound g) (GammaHalted g)
fill_exactly g = fills_exactly (exactly g) (steady g)
