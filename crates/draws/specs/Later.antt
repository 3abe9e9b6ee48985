-- 'A refusal carries .. the positions as lent', and what no later draw changes, of any sampler. Definitions only.
use Rattle.std.specs.Prelude.{◌≤◌, ◌≡◌, true, length, take, Float, Err, Ok}
use Rattle.draws.specs.declared.{Positions.Positions, Kind.Kind, Refusal.Refusal}
use Rattle.draws.specs.Draws.{Lent, slice, place, placed, Drawn}

-- the draws of every kind up to the positions q are the same
abbrev pub SameTo : Positions → Lent → Lent → Type 0
SameTo q L L' = (k : Kind) → take (place k q) (slice k L') ≡ take (place k q) (slice k L)

-- q is at or past p in every slice, and within it
abbrev pub Reached : Lent → Positions → Positions → Type 0
Reached L p q = (k : Kind) → (place k p ≤ place k q) × (place k q ≤ length (slice k L))

-- a refusal keeps the positions, a sample's are further on, and draws beyond those change nothing in it
pub record Steady (s : Lent → Positions → Drawn) : Type 0 where
  pub keeps : (L : Lent) (p : Positions) {r : Refusal} {q : Positions} → s L p ≡ Err (r, q) → q ≡ p
  pub reaches : (L : Lent) (p : Positions) {v : Float} {q : Positions} → placed L p ≡ true → s L p ≡ Ok (v, q) → Reached L p q
  pub later : (L L' : Lent) (p : Positions) {v : Float} {q : Positions} → placed L p ≡ true → s L p ≡ Ok (v, q) → SameTo q L L' → s L' p ≡ Ok (v, q)
