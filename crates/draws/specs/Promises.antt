-- How a promise names what a call was lent: the draws by their three references, an output as it was lent and as it is left. Definitions only.
use Rattle.std.specs.Prelude.{List, Float}
use denote.Triple.Both.{Both}
use Rattle.std.specs.Borrow.{Bor, MutBor}
use Rattle.draws.specs.Draws.{Lent, lent, placed, Drawn, Filled}
use Rattle.draws.specs.Fill.{Fills}
use Rattle.draws.specs.declared.{Positions.Positions, Lent.Lent as Slices}

-- a lent slice, at a call's entry and at its exit
abbrev pub Slice : Type 0 → Type 0
Slice A = Both (Bor (List A)) (Bor (List A))

-- one lent to be written to
abbrev pub SliceMut : Type 0 → Type 0
SliceMut A = Both (MutBor (List A)) (MutBor (List A))

-- the draws of a call, as they were lent
abbrev pub lent_by : Both Slices Slices → Lent
lent_by l = lent l.entry.uniforms.now l.entry.normals.now l.entry.exponentials.now

-- a fill of a lent output by what a sampler draws from l: the answer r, and what is left in every cell
abbrev pub FillsBy : (Lent → Positions → Drawn) → Lent → Positions → SliceMut Float → Filled → Type 0
FillsBy s l p out r = Fills (placed l p) (s l) p out.entry.now r out.exit.now
