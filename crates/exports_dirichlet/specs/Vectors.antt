-- Dirichlet's vector as a call on plain numbers: its answer's number, kind and index, and the call. Definitions only.
use Rattle.std.specs.Prelude.{ℕ, List, Ok, Err, length, Float}
use Rattle.draws.specs.Draws.{Lent}
use Rattle.draws.specs.Promises.{Slice, SliceMut}
use Rattle.draws.specs.declared.{numbers.Named.Named, Positions.Positions}
use Rattle.dirichlet_alpha.specs.Alpha.{named_of}
use Rattle.dirichlet_alpha.specs.Answers.{Answer, ready_of, answer_by, cells_by}
use Rattle.dirichlet.specs.Dirichlet.{vector_of}
use Rattle.reports.specs.Reports.{cramped, lent_at, numbered}
use Rattle.reports.specs.Calls.{Ended, ended, Calls}

-- 0 where the vector was sampled, and the positions past its draws; p, those as lent, where it is refused
abbrev pub answer_named : Answer → Named
answer_named (Ok q) = numbered 0
answer_named (Err (r, q)) = named_of r

abbrev pub answer_at : Positions → Answer → Positions
answer_at p (Ok q) = q
answer_at p (Err (r, q)) = p

-- 'Order: .. 11, 15, element scan, 16, 17, then draws', as the sampler answers and leaves the output
abbrev pub vector_ended : List Float → Lent → Positions → List Float → Ended
vector_ended alpha l p out =
    let c = ready_of alpha (length out) l p in
    let a = answer_by c p (vector_of alpha l p) in
    ended (answer_named a) (answer_at p a) (cells_by c out (vector_of alpha l p))

pub record VectorCall (alpha : List Float) (l : Lent) (out : List Float) (report : List ℕ) (r : ℕ) (left : List Float) (told : List ℕ) : Type 0 where
  pub call : Calls (cramped report) (vector_ended alpha l (lent_at report) out) out report r left told

-- as a promise names it
abbrev pub VectorCallBy : Slice Float → Lent → SliceMut Float → SliceMut ℕ → ℕ → Type 0
VectorCallBy alpha l out report r = VectorCall alpha.entry.now l out.entry.now report.entry.now r out.exit.now report.exit.now
