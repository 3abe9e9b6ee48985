-- The laws of a call on plain numbers, for a vector.
use Prim.Native.Nat.{ℕ}
use mathlib.Core.List.{List}
use mathlib.Core.Path.{◌≡◌}
use lib.Ieee.{Float}
use Rattle.std.specs.Prelude.{Some, None}
use Rattle.draws.specs.Draws.{Lent}
use Rattle.draws.specs.declared.Positions.{Positions}
use Rattle.dirichlet_alpha.specs.Answers.{Answer}
use Rattle.dirichlet.specs.Dirichlet.{Dirichlets}
use Rattle.reports.specs.Reports.{short, cramped, lent_at, start_by, Tells}
use Rattle.reports.proofs.Laws.{enough, untouched, ends}
use Rattle.exports_dirichlet.specs.Vectors.{answer_named, answer_at, VectorCall}

pub vector_untouched : {alpha : List Float} {l : Lent} {out : List Float} {report : List ℕ} → start_by (cramped report) report ≡ None → VectorCall alpha l out report short out report
vector_untouched {alpha} {l} {out} {report} h = record { call = untouched (cramped report) h }

pub vector_told : {alpha : List Float} {l : Lent} {out left : List Float} {report told : List ℕ} {p : Positions} {a : Answer} {r : ℕ} → start_by (cramped report) report ≡ Some p → Dirichlets alpha l p out a left → Tells (cramped report) (answer_named a) (answer_at (lent_at report) a) report r told → VectorCall alpha l out report r left told
vector_told {alpha} {l} {out} {left} {report} {told} {p} {a} {r} h k t =
    let (b, q) = enough (cramped report) report h in
    record { call = rw (← q) (ends b (rw (← k.answer_is, q) t) k.cells_are) }
