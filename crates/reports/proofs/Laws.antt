-- A call's start says whether its arrays are long enough; what it then ends with is what its sampler's promise says, whichever sampler it is.
use Prim.Native.Nat.{ℕ, ◌≤◌, ◌<◌}
use native.Mathlib.Omega.{arith}
use mathlib.Core.List.{List, [], ◌∷◌, ◌++◌}
use mathlib.Core.Path.{◌≡◌, refl, sym, ap, ◌∙◌}
use mathlib.Core.Bool.{Bool, true, false, cond}
use lib.ListN.{length, get_or, set, drop}
use lib.Ieee.{Float, nan}
use Rattle.std.specs.Prelude.{Ok, Err, Some, None}
use Rattle.draws.specs.Draws.{Lent, placed, Drawn, Filled}
use Rattle.draws.specs.Fill.{Fills}
use Rattle.draws.specs.declared.numbers.Named.{Named}
use Rattle.draws.specs.declared.Positions.{Positions}
use Rattle.reports.specs.Reports.{short, cramped, lent_at, start_by, cells, numbered, Tells, filled_named, filled_at}
use Rattle.reports.specs.Calls.{Ended, Calls, Ready, fill_ended, FillCall, SampleCall}

-- ---- the start
-- a start at positions: the arrays are long enough, and the positions are those lent
pub enough : (b : Bool) (report : List ℕ) {p : Positions} → start_by b report ≡ Some p → (b ≡ false) × (p ≡ lent_at report)
enough false report e = (refl, cc)
enough true report e = cc

pub lent_there : (b : Bool) (report : List ℕ) {p : Positions} → start_by b report ≡ Some p → p ≡ lent_at report
lent_there b report e = (enough b report e).1

pub too_short : (b : Bool) (report : List ℕ) → start_by b report ≡ None → b ≡ true
too_short false report e = cc
too_short true report e = refl

-- ---- the report
-- six writes in order, in a report that has six cells
pub six : (xs : List ℕ) (n k i u m e : ℕ) → 6 ≤ length xs → set (set (set (set (set (set xs 0 n) 1 k) 2 i) 3 u) 4 m) 5 e ≡ n ∷ k ∷ i ∷ u ∷ m ∷ e ∷ drop 6 xs
six [] n k i u m e h = absurd (omega arith)
six (a ∷ []) n k i u m e h = absurd (omega arith)
six (a ∷ b ∷ []) n k i u m e h = absurd (omega arith)
six (a ∷ b ∷ c ∷ []) n k i u m e h = absurd (omega arith)
six (a ∷ b ∷ c ∷ d ∷ []) n k i u m e h = absurd (omega arith)
six (a ∷ b ∷ c ∷ d ∷ f ∷ []) n k i u m e h = absurd (omega arith)
six (a ∷ b ∷ c ∷ d ∷ f ∷ g ∷ xs) n k i u m e h = refl

pub untold : {b : Bool} {w : Named} {p : Positions} {report : List ℕ} → b ≡ true → Tells b w p report short report
untold e = record { number_is = rw (e); report_is = rw (e) }

pub tells : {b : Bool} {w : Named} {p : Positions} {report left : List ℕ} → b ≡ false → left ≡ cells w p report → Tells b w p report w.number left
tells e h = record { number_is = rw (e); report_is = rw (e) h }

-- a refusal at the start's positions is one at the positions as lent
pub lent_told : {w : Named} {p : Positions} {report left : List ℕ} {r : ℕ} → start_by (cramped report) report ≡ Some p → Tells (cramped report) w p report r left → Tells (cramped report) w (lent_at report) report r left
lent_told {w} {p} {report} h t = rw (← lent_there (cramped report) report h) t

-- ---- the call
-- arrays that are too short: nothing is touched
pub untouched : (b : Bool) {e : Ended} {out : List Float} {report : List ℕ} → start_by b report ≡ None → Calls b e out report short out report
untouched b {e} {out} {report} h = let t = too_short b report h in record { tells = untold t; output_is = rw (t) }

-- the call of arrays that are long enough
pub ends : {b : Bool} {e : Ended} {out left : List Float} {report told : List ℕ} {r : ℕ} → b ≡ false → Tells b e.refusal e.at report r told → left ≡ e.output → Calls b e out report r left told
ends h t k = record { tells = t; output_is = rw (h) k }

-- 'a public function's promise settles the result, the new positions and every element of a lent output'
pub one_outcome : {b : Bool} {e : Ended} {out left left' : List Float} {report told told' : List ℕ} {r r' : ℕ} → Calls b e out report r left told → Calls b e out report r' left' told' → (r ≡ r') × (left ≡ left') × (told ≡ told')
one_outcome c d = (c.tells.number_is ∙ sym d.tells.number_is, c.output_is ∙ sym d.output_is, c.tells.report_is ∙ sym d.tells.report_is)

-- ---- a fill: of arrays too short; by a sampler that was made, whose fill kept its promise; of a constructor's refusal
module _ {m : Ready} {l : Lent} {out : List Float} {report : List ℕ} where
  pub fill_untouched : start_by (cramped report) report ≡ None → FillCall m l out report short out report
  fill_untouched h = record { call = untouched (cramped report) h }

  module _ {told : List ℕ} {p : Positions} {r : ℕ} where
    pub fill_made : {s : Lent → Positions → Drawn} {left : List Float} {f : Filled} → m ≡ Ok s → start_by (cramped report) report ≡ Some p → Fills (placed l p) (s l) p out f left → Tells (cramped report) (filled_named f) (filled_at (lent_at report) f) report r told → FillCall m l out report r left told
    fill_made e h k t =
        let (b, q) = enough (cramped report) report h in
        record { call = rw (e, ← q) (ends b (rw (← k.answer_is, q) t) k.cells_are) }

    pub fill_unmade : {n : ℕ} → m ≡ Err n → start_by (cramped report) report ≡ Some p → Tells (cramped report) (numbered n) (lent_at report) report r told → FillCall m l out report r out told
    fill_unmade e h t = record { call = rw e (ends (enough (cramped report) report h).0 t refl) }

-- ---- a single sample: of an output of no cells; by a fill of one cell, which is the first before and put back after
pub sample_untouched : {m : Ready} {l : Lent} (out : List Float) {report : List ℕ} → length out < 1 → SampleCall m l out report short out report
sample_untouched [] h = record { call = record { tells = untold refl; output_is = refl } }
sample_untouched (x ∷ out) h = absurd (omega arith)

first : (b : Bool) (x : Float) (e : List Float) {y : Float} {xs : List Float} → y ∷ [] ≡ cond b (x ∷ []) e → y ∷ xs ≡ cond b (x ∷ xs) (e ++ xs)
first true x e {xs = xs} h = ap (◌++ xs) h
first false x e {xs = xs} h = ap (◌++ xs) h

pub sample_first : {m : Ready} {l : Lent} (out left : List Float) {report told : List ℕ} {r : ℕ} → 1 ≤ length out → length left ≡ 1 → FillCall m l (get_or out 0 nan ∷ []) report r left told → SampleCall m l out report r (set out 0 (get_or left 0 nan)) told
sample_first [] left h e f = absurd (omega arith)
sample_first (x ∷ xs) [] h e f = absurd (omega arith)
sample_first (x ∷ xs) (y ∷ z ∷ zs) h e f = absurd (omega arith)
sample_first {m} {l} (x ∷ xs) (y ∷ []) {report} h e f = record { call = record { tells = f.call.tells; output_is = first (cramped report) x (fill_ended m l (lent_at report) (x ∷ [])).output f.call.output_is } }
