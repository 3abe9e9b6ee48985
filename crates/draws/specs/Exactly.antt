-- What is said of a sampler and of its fills by number, for every outcome: no search is run by F or H. Definitions only.
use Rattle.std.specs.Prelude.{◌≡◌, ◌↔◌, List, true, false, length, replicate, Float, Err, Ok}
use Rattle.kernels.specs.Numbers.{nought}
use Rattle.draws.specs.Draws.{Lent, placed, Drawn}
use Rattle.draws.specs.Fill.{Fills, InTurn, FirstLacking}
use Rattle.draws.specs.Later.{SameTo}
use Rattle.draws.specs.declared.{Positions.Positions, Refusal.Refusal, Refusal.TheVariants.Above}

-- Where no position is above its slice, a sample is given exactly where F finds it, and a refusal exactly where H finds it, with the positions as
-- lent; H never finds 17, which is the answer at all other positions.
pub record Exactly (s : Lent → Positions → Drawn) (F : Lent → Positions → Float → Positions → Type 0) (H : Lent → Positions → Refusal → Type 0) : Type 0 where
  pub sampled : (L : Lent) (p : Positions) {v : Float} {q : Positions} → placed L p ≡ true → (s L p ≡ Ok (v, q)) ↔ F L p v q
  pub refused : (L : Lent) (p : Positions) {r : Refusal} {q : Positions} → placed L p ≡ true → (s L p ≡ Err (r, q)) ↔ (H L p r × (q ≡ p))
  pub not_above : (L : Lent) (p : Positions) → placed L p ≡ true → ¬ H L p Above
  pub above : (L : Lent) (p : Positions) → placed L p ≡ false → s L p ≡ Err (Above, p)

-- Of a fill: each element is a sample found where the one before it ended; or the refusal is that of the first sample that can't be had, and every
-- element is +0; 17 is answered exactly where a position is above its slice, and the output is then as lent; draws beyond the new positions change nothing.
pub record FillsExactly (s : Lent → Positions → Drawn) (F : Lent → Positions → Float → Positions → Type 0) (H : Lent → Positions → Refusal → Type 0) : Type 0 where
  pub filled_is : (L : Lent) (p : Positions) → placed L p ≡ true → {out left : List Float} {q : Positions}
      → Fills (placed L p) (s L) p out (Ok q) left ↔ InTurn (λ i. F L) (length out) p left q
  pub refused_is : (L : Lent) (p : Positions) → placed L p ≡ true → {out left : List Float} {q : Positions} {r : Refusal}
      → Fills (placed L p) (s L) p out (Err (r, q)) left ↔ (FirstLacking (λ i. F L) (λ i. H L) (length out) p r × (q ≡ p) × (left ≡ replicate (length out) nought))
  pub above_is : (L : Lent) (p : Positions) {out left : List Float} {q : Positions}
      → Fills (placed L p) (s L) p out (Err (Above, q)) left ↔ ((placed L p ≡ false) × (q ≡ p) × (left ≡ out))
  pub later : (L L' : Lent) (p : Positions) {out left : List Float} {q : Positions}
      → Fills (placed L p) (s L) p out (Ok q) left → SameTo q L L' → Fills (placed L' p) (s L') p out (Ok q) left
