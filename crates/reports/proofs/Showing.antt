-- What shows a sampler that was made: a call that finds cells enough lays its kinds and its fields over the first of them, of whatever type they are;
-- one whose cells are too few touches none, and one that is refused leaves them as lent.
use Prim.Native.Nat.{ℕ, ◌+◌, ◌≤◌, ◌<◌}
use native.Mathlib.Nat.{zero-add}
use native.Mathlib.Numerals.{add-one}
use native.Mathlib.Omega.{arith}
use mathlib.Core.List.{List, ◌++◌}
use mathlib.Core.Path.{◌≡◌, refl, sym, ap, ◌∙◌}
use mathlib.Core.Bool.{Bool, true, false, cond}
use lib.ListN.{length, get_or, take, drop, set, length-set}
use lib.Seq.{paste-suc, take-length}
use lib.Ieee.{Float}
use Rattle.std.specs.Prelude.{Ok, Err}
use Rattle.reports.specs.Reports.{short}
use Rattle.reports.specs.Shown.{Shown, over, Shows}

-- ---- cell by cell: the first i values are laid
pub record Laid {A : Type 0} (values cells : List A) (i : ℕ) (so : List A) : Type 0 where
  pub room : length values ≤ length cells
  pub within : i ≤ length values
  pub long : length so ≡ length cells
  pub so_far : so ≡ take i values ++ drop i cells

pub laid_none : {A : Type 0} (values cells : List A) → length values ≤ length cells → Laid values cells 0 cells
laid_none values cells h = record { room = h; within = omega arith; long = refl; so_far = refl }

module _ {A : Type 0} {values cells so : List A} {i : ℕ} (h : Laid values cells i so) where
  pub laid_more : (d : A) → i < length values → Laid values cells (i + 1) (set so i (get_or values i d))
  laid_more d l =
      record {
        room = h.room;
        within = omega arith;
        long = length-set so i _ ∙ h.long;
        so_far = rw (add-one i) (ap (λ (z : List A). set z i (get_or values i d)) h.so_far ∙ (simp zero-add at (paste-suc cells 0 values i d (omega arith) l)));
      }

  pub laid_all : length values ≤ i → so ≡ over values cells
  laid_all l = let e : i ≡ length values = omega (arith, h.within) in h.so_far ∙ rw (e, take-length)

-- ---- the call
pub unshown : {b : Bool} {s : Shown} {kinds : List ℕ} {fields : List Float} → b ≡ true → Shows b s kinds fields short kinds fields
unshown e = record { number_is = rw (e); kinds_are = rw (e); fields_are = rw (e) }

pub shows : {b : Bool} {ks : List ℕ} {fs : List Float} {kinds kinds' : List ℕ} {fields fields' : List Float} → b ≡ false → kinds' ≡ over ks kinds → fields' ≡ over fs fields → Shows b (Ok (ks, fs)) kinds fields 0 kinds' fields'
shows e k f = record { number_is = rw (e); kinds_are = rw (e) k; fields_are = rw (e) f }

-- of a sampler that was made, s' as the call shows it and s as the rule has it
pub shows_made : {b : Bool} {s s' : Shown} {kinds kinds' : List ℕ} {fields fields' : List Float} {r : ℕ} → s ≡ s' → Shows b s' kinds fields r kinds' fields' → Shows b s kinds fields r kinds' fields'
shows_made e h = rw (e) h

as_lent : {A : Type 0} (b : Bool) (x : A) → x ≡ cond b x x
as_lent true x = refl
as_lent false x = refl

-- of a constructor's refusal
pub shows_unmade : {s : Shown} {n : ℕ} (b : Bool) {kinds : List ℕ} {fields : List Float} {r : ℕ} → s ≡ Err n → r ≡ cond b short n → Shows b s kinds fields r kinds fields
shows_unmade b {kinds} {fields} e h = rw (e) (record { number_is = h; kinds_are = as_lent b kinds; fields_are = as_lent b fields })

-- 'a public function's promise settles the result .. and every element of a lent output'
pub one_showing : {b : Bool} {s : Shown} {kinds left left' : List ℕ} {fields held held' : List Float} {r r' : ℕ} → Shows b s kinds fields r left held → Shows b s kinds fields r' left' held' → (r ≡ r') × (left ≡ left') × (held ≡ held')
one_showing c d = (c.number_is ∙ sym d.number_is, c.kinds_are ∙ sym d.kinds_are, c.fields_are ∙ sym d.fields_are)
