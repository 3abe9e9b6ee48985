-- What a call on plain numbers gives, for any sampler: the number returned, the report and the output. Definitions only.
use Rattle.std.specs.Prelude.{ℕ, List, [], ◌∷◌, ◌++◌, ◌≡◌, Bool, true, cond, Result, Ok, Err, take, drop, Float}
use Rattle.draws.specs.Draws.{Lent, lent, placed, Drawn}
use Rattle.draws.specs.Promises.{Slice, SliceMut}
use Rattle.draws.specs.declared.{numbers.Named.Named, Positions.Positions}
use Rattle.draws.specs.Fill.{fill_answer, fill_cells}
use Rattle.reports.specs.Reports.{cramped, lent_at, numbered, Tells, filled_named, filled_at}

-- how a call ends that finds its arrays long enough: its refusal or 0, the positions, and every cell of the output
pub record Ended : Type 0 where
  pub refusal : Named
  pub at : Positions
  pub output : List Float

abbrev pub ended : Named → Positions → List Float → Ended
ended w p out = record { refusal = w; at = p; output = out }

-- the call, b saying that a lent array is too short: then nothing is touched
pub record Calls (b : Bool) (e : Ended) (out : List Float) (report : List ℕ) (r : ℕ) (left : List Float) (told : List ℕ) : Type 0 where
  pub tells : Tells b e.refusal e.at report r told
  pub output_is : left ≡ cond b out e.output

-- a constructor's answer: what its sampler draws, or its number
abbrev pub Ready : Type 0
Ready = Result (Lent → Positions → Drawn) ℕ

-- the same of any constructor, d being what each sampler draws and n the number of each refusal
abbrev pub ready : {S E : Type 0} → (S → Lent → Positions → Drawn) → (E → ℕ) → Result S E → Ready
ready d n (Ok s) = Ok (d s)
ready d n (Err e) = Err (n e)

-- ---- a fill: 'Numbers up to 17 leave an output as lent', and the positions are as lent after any refusal
abbrev pub fill_ended : Ready → Lent → Positions → List Float → Ended
fill_ended (Err n) l p out = ended (numbered n) p out
fill_ended (Ok s) l p out =
    let a = fill_answer (placed l p) (s l) p out in
    ended (filled_named a) (filled_at p a) (fill_cells (placed l p) (s l) p out)

pub record FillCall (m : Ready) (l : Lent) (out : List Float) (report : List ℕ) (r : ℕ) (left : List Float) (told : List ℕ) : Type 0 where
  pub call : Calls (cramped report) (fill_ended m l (lent_at report) out) out report r left told

-- ---- a single sample: the fill of an output of one element, which is the first cell; the other cells are as lent
abbrev pub sample_ended : Ready → Lent → Positions → List Float → Ended
sample_ended m l p out =
    let e = fill_ended m l p (take 1 out) in
    ended e.refusal e.at (e.output ++ drop 1 out)

-- no cell to write, or no room for the answer
abbrev pub lacking : List Float → List ℕ → Bool
lacking [] report = true
lacking (x ∷ out) report = cramped report

pub record SampleCall (m : Ready) (l : Lent) (out : List Float) (report : List ℕ) (r : ℕ) (left : List Float) (told : List ℕ) : Type 0 where
  pub call : Calls (lacking out report) (sample_ended m l (lent_at report) out) out report r left told

-- ---- as a promise names them: the lent draws, the lent output and the lent report, these two as they were lent and as they are left
abbrev pub lent_of : Slice Float → Slice Float → Slice Float → Lent
lent_of us ns es = lent us.entry.now ns.entry.now es.entry.now

abbrev pub FillCallBy : Ready → Lent → SliceMut Float → SliceMut ℕ → ℕ → Type 0
FillCallBy m l out report r = FillCall m l out.entry.now report.entry.now r out.exit.now report.exit.now

abbrev pub SampleCallBy : Ready → Lent → SliceMut Float → SliceMut ℕ → ℕ → Type 0
SampleCallBy m l out report r = SampleCall m l out.entry.now report.entry.now r out.exit.now report.exit.now
