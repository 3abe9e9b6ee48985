-- Document 01, 'Lent draws': the draws, the positions, and the draw needed next. Definitions only.
use Rattle.std.specs.Prelude.{ℕ, ◌+◌, List, ◌≡◌, Bool, true, cond, ◌&&◌, Result, Ok, Err, Option, length, get_or, leb, ltb, Float}
use Rattle.std.specs.Float.{nan}
use Rattle.std.specs.Float.Ieee.{lt, eq}
use Rattle.kernels.specs.Numbers.{nought, one, finite}
use Rattle.draws.specs.declared.{Positions.Positions, Kind.Kind, Kind.TheVariants.Uniform, Kind.TheVariants.Normal, Kind.TheVariants.Exponential, Refusal.Refusal, Refusal.TheVariants.Above, Refusal.TheVariants.Unusable, Refusal.TheVariants.Absent}

-- a value and the positions past its draws, or why a draw of it can't be had
abbrev pub Draw : Type 0
Draw = Result (Float × Positions) Refusal

-- a trial's value, where it is accepted, and the positions past its draws; or why a draw of it can't be had
abbrev pub Trial : Type 0
Trial = Result (Option Float × Positions) Refusal

-- a sample and the positions past its draws; or a refusal and the positions as lent
abbrev pub Drawn : Type 0
Drawn = Result (Float × Positions) (Refusal × Positions)

-- the positions past the draws of a filled output; or a refusal and the positions as lent
abbrev pub Filled : Type 0
Filled = Result Positions (Refusal × Positions)

-- 'A caller lends three f64 slices: uniforms, normals, exponentials, and a position in each.'
pub record Lent : Type 0 where
  pub uniforms : List Float
  pub normals : List Float
  pub exponentials : List Float

abbrev pub lent : List Float → List Float → List Float → Lent
lent us ns es = record { uniforms = us; normals = ns; exponentials = es }

abbrev pub slice : Kind → Lent → List Float
slice Uniform l = l.uniforms
slice Normal l = l.normals
slice Exponential l = l.exponentials

abbrev pub place : Kind → Positions → ℕ
place Uniform p = p.uniform.0
place Normal p = p.normal.0
place Exponential p = p.exponential.0

-- the start of every slice; with the next two, the only definitions that make positions
abbrev pub origin : Positions
origin = record { uniform = record { 0 = 0 }; normal = record { 0 = 0 }; exponential = record { 0 = 0 } }

-- 'and a position in each': those that a caller lends as plain numbers
abbrev pub places : ℕ → ℕ → ℕ → Positions
places u n e = record { uniform = record { 0 = u }; normal = record { 0 = n }; exponential = record { 0 = e } }

-- the positions with that in a kind's slice moved
abbrev pub to : Kind → ℕ → Positions → Positions
to Uniform i p = record { uniform = record { 0 = i }; normal = p.normal; exponential = p.exponential }
to Normal i p = record { uniform = p.uniform; normal = record { 0 = i }; exponential = p.exponential }
to Exponential i p = record { uniform = p.uniform; normal = p.normal; exponential = record { 0 = i } }

-- the positions n draws of a kind further on
abbrev pub past : Kind → ℕ → Positions → Positions
past k n p = to k (place k p + n) p

-- the positions just past draw i of a kind, i counted from the slice's start
abbrev pub up_to : Kind → ℕ → Positions → Positions
up_to k i p = to k (i + 1) p

-- 'A position above its slice's length is refused; equal is allowed.'
unfoldable pub placed : Lent → Positions → Bool
placed l p = leb (place Uniform p) (length l.uniforms) && (leb (place Normal p) (length l.normals) && leb (place Exponential p) (length l.exponentials))

-- 'Usable: a uniform strictly between 0 and 1; a normal that is finite; an exponential that is finite', and, for the 'at least 0' that follows there,
-- document 02, #105: 'From now on an exponential is usable only above 0.'
unfoldable pub usable : Kind → Float → Bool
usable Uniform x = lt nought x && lt x one
usable Normal x = finite x
usable Exponential x = finite x && lt nought x

-- draw number i of a kind, counted from the position p: whether it is there, and what it is
abbrev pub there : Kind → Lent → Positions → ℕ → Bool
there k l p i = ltb (place k p + i) (length (slice k l))

abbrev pub nth : Kind → Lent → Positions → ℕ → Float
nth k l p i = get_or (slice k l) (place k p + i) nan

-- the next draw of a kind is there and usable
abbrev pub Had : Kind → Lent → Positions → Type 0
Had k l p = (there k l p 0 ≡ true) × (usable k (nth k l p 0) ≡ true)

-- it and no other was used: x is its value, and q are the positions past it
abbrev pub Next : Kind → Lent → Positions → Float → Positions → Type 0
Next k l p x q = Had k l p × (x ≡ nth k l p 0) × (q ≡ past k 1 p)

-- 'absent gives 19, present and unusable gives 18', with the kind and the index in the lent slice; a position above the slice gives 17
abbrev pub refusal_at : Kind → List Float → ℕ → Refusal
refusal_at k xs i = cond (ltb i (length xs)) (Unusable k i) (cond (leb i (length xs)) (Absent k i) Above)

-- the other outcome: the next draw of a kind is absent or unusable, and r is its refusal
abbrev pub NotNext : Kind → Lent → Positions → Refusal → Type 0
NotNext k l p r = (¬ Had k l p) × (r ≡ refusal_at k (slice k l) (place k p))

-- #105, 'for either zero': the exponential needed next is there and is +0 or -0
abbrev pub ZeroNext : Lent → Positions → Type 0
ZeroNext l p = (there Exponential l p 0 ≡ true) × (eq (nth Exponential l p 0) nought ≡ true)

-- 'Only the draw needed next is examined': the draw at p and the positions past it, or why it can't be had
unfoldable pub read : Kind → List Float → Positions → Draw
read k xs p =
    let i = place k p in
    let x = get_or xs i nan in
    cond (ltb i (length xs) && usable k x) (Ok (x, past k 1 p)) (Err (refusal_at k xs i))
