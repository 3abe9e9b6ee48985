-- A fill's samples are in order by one sampler, so that what `InOrder` says by index is said of it: its loop ends with its samples, and its promise
-- says which they are.
use Prim.Native.Nat.{ℕ, ◌+◌, ◌<◌, ◌≤◌}
use native.Mathlib.Omega.{arith}
use mathlib.Core.Path.{◌≡◌, refl, sym, ◌∙◌}
use mathlib.Core.List.{List, []}
use mathlib.Core.Bool.{Bool, true, false}
use lib.ListN.{length, set, replicate}
use lib.Ieee.{Float}
use Rattle.kernels.specs.Numbers.{nought}
use Rattle.draws.specs.declared.Positions.{Positions}
use Rattle.draws.specs.declared.Refusal.{Refusal}
use Rattle.draws.specs.declared.Refusal.TheVariants.{Above}
use Rattle.draws.specs.Fill.{Samples, all, stopped, samples, filled_by, cells_of, each, fill_answer, fill_cells, Fills}
use Rattle.draws.proofs.InOrder.{Storing, storing_starts, storing_goes, storing_stops, storing_ends}
use Rattle.std.specs.Prelude.{Err, Ok}
use Rattle.draws.specs.Draws.{Drawn, Filled}
use Rattle.draws.proofs.Pairs.{err_parts}

-- ---- the loop has stored i of n values in out, and stands at q
abbrev pub Filling : (Positions → Drawn) → Positions → ℕ → ℕ → List Float → Positions → Type 0
Filling s = Storing (each s)

pub fill_starts : (s : Positions → Drawn) (p : Positions) (out : List Float) → Filling s p (length out) 0 out p
fill_starts s p out = storing_starts (each s) p out refl

pub fill_goes : {s : Positions → Drawn} {p : Positions} {n i : ℕ} {out : List Float} {q : Positions} → Filling s p n i out q
    → i < n → {v : Float} {q' : Positions} → s q ≡ Ok (v, q') → Filling s p n (i + 1) (set out i v) q'
fill_goes = storing_goes

-- its three returns
module _ {b : Bool} {s : Positions → Drawn} {p : Positions} {out : List Float} where
  pub fill_above : b ≡ false → Fills b s p out (Err (Above, p)) out
  fill_above e = record { answer_is = rw e; cells_are = rw e }

  module _ {i : ℕ} {left : List Float} {q : Positions} (e : b ≡ true) (f : Filling s p (length out) i left q) where
    pub fill_done : length left ≤ i → Fills b s p out (Ok q) left
    fill_done l = let h = storing_ends f (omega (arith, f.long)) in record { answer_is = rw (e, h); cells_are = rw (e, h) }

    pub fill_refused : i < length left → {r : Refusal} {q' : Positions} → s q ≡ Err (r, q') → {last : List Float} → last ≡ replicate (length left) nought
        → Fills b s p out (Err (r, p)) last
    fill_refused l d z = let h = storing_stops f (omega (arith, f.long)) d in record { answer_is = rw (e, h); cells_are = rw (e, h, ← f.long) z }

-- ---- what a fill's promise says
module _ {b : Bool} {s : Positions → Drawn} {p : Positions} {out : List Float} where
  module _ {left : List Float} {q : Positions} (f : Fills b s p out (Ok q) left) where
    -- only where no position is above its slice
    pub given_placed : b ≡ true
    given_placed = go b f.answer_is
      where
        go : (b : Bool) → Ok q ≡ fill_answer b s p out → b ≡ true
        go true e = refl
        go false e = let z : ◌≡◌ {A = ℕ} 0 1 = cc in absurd (omega arith)

    pub all_given : samples (each s) 0 (length out) p ≡ all left q
    all_given = by_place b f.answer_is f.cells_are
      where
        by_samples : (x : Samples) → Ok q ≡ filled_by p x → left ≡ cells_of (length out) x → x ≡ all left q
        by_samples (all vs z) a c = cc
        by_samples (stopped r) a c = let z : ◌≡◌ {A = ℕ} 0 1 = cc in absurd (omega arith)

        by_place : (b : Bool) → Ok q ≡ fill_answer b s p out → left ≡ fill_cells b s p out → samples (each s) 0 (length out) p ≡ all left q
        by_place true a c = by_samples (samples (each s) 0 (length out) p) a c
        by_place false a c = let z : ◌≡◌ {A = ℕ} 0 1 = cc in absurd (omega arith)

  pub fill_above_kept : b ≡ false → {r : Filled} {left : List Float} → Fills b s p out r left → (r ≡ Err (Above, p)) × (left ≡ out)
  fill_above_kept e f = (rw e at f.answer_is, rw e at f.cells_are)

  module _ (e : b ≡ true) {r : Refusal} {q : Positions} {left : List Float} (f : Fills b s p out (Err (r, q)) left) where
    pub one_refused : (samples (each s) 0 (length out) p ≡ stopped r) × (q ≡ p) × (left ≡ replicate (length out) nought)
    one_refused = by_samples (samples (each s) 0 (length out) p) (rw e at f.answer_is) (rw e at f.cells_are)
      where
        by_samples : (x : Samples) → Err (r, q) ≡ filled_by p x → left ≡ cells_of (length out) x → (x ≡ stopped r) × (q ≡ p) × (left ≡ replicate (length out) nought)
        by_samples (all vs z) a c = let z : ◌≡◌ {A = ℕ} 0 1 = cc in absurd (omega arith)
        by_samples (stopped w) a c = let (h, i) = err_parts a in (rw h, i, c)

    pub fill_cleared : (q ≡ p) × (left ≡ replicate (length out) nought)
    fill_cleared = (one_refused.1, one_refused.2)

  pub one_fill : {r r' : Filled} {left left' : List Float} → Fills b s p out r left → Fills b s p out r' left' → (r ≡ r') × (left ≡ left')
  one_fill f g = (f.answer_is ∙ sym g.answer_is, f.cells_are ∙ sym g.cells_are)

-- an empty output uses nothing
pub fill_empty : {b : Bool} {s : Positions → Drawn} {p : Positions} → b ≡ true → {r : Filled} {left : List Float} → Fills b s p [] r left → (r ≡ Ok p) × (left ≡ [])
unfolding samples
fill_empty e f = (rw e at f.answer_is, rw e at f.cells_are)
