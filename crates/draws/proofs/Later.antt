-- What stands beyond the new positions was not looked at: slices with the same first draws have the same draws there, so trials that read only
-- those come out the same, and so does what is found or halted among them.
use Prim.Native.Nat.{ℕ, ◌+◌, ◌<◌, ◌≤◌}
use native.Mathlib.Nat.{le_refl, le_of_lt, eq-or-lt_of_le}
use native.Mathlib.Omega.{arith}
use borrow.Author.Tests.{lt-ltb, le-leb, leb-true}
use mathlib.Core.Path.{◌≡◌, refl, sym, ◌∙◌, ap}
use mathlib.Core.Logic.{⊎_elim}
use mathlib.Core.List.{List}
use mathlib.Core.Bool.{true, and-eq-true_iff}
use lib.ListN.{length, get_or, take, length-take}
use lib.Seq.{get_or-take, take-take}
use lib.Dec.{ltb}
use lib.Ieee.{Float, nan}
use Rattle.draws.specs.declared.Positions.{Positions}
use Rattle.draws.specs.declared.Kind.{Kind}
use Rattle.draws.specs.declared.Kind.TheVariants.{Uniform, Normal, Exponential}
use Rattle.draws.specs.declared.Refusal.{Refusal}
use Rattle.draws.specs.Draws.{Lent, slice, place, past, placed, there, nth, read}
use Rattle.draws.specs.Later.{SameTo, Reached}
use Rattle.draws.specs.Search.{Trials, Rejects, Halts, Found, Halted, valued}

-- ---- two slices with the same first n draws
module _ (n : ℕ) (xs xs' : List Float) (e : take n xs' ≡ take n xs) (l : n ≤ length xs) where
  as_long : n ≤ length xs'
  as_long = omega (arith, length-take n xs, length-take n xs', ap length e)

  module _ (i : ℕ) (m : i < n) where
    there_too : ltb i (length xs') ≡ true
    there_too = lt-ltb i (length xs') (omega (arith, as_long))

    same_draw : get_or xs' i nan ≡ get_or xs i nan
    same_draw = sym (get_or-take n xs' i nan m) ∙ ap (λ (zs : List Float). get_or zs i nan) e ∙ get_or-take n xs i nan m

  pub same_read : (k : Kind) (p : Positions) → place k p < n → read k xs' p ≡ read k xs p
  unfolding read
  same_read k p m = rw (there_too _ m, same_draw _ m, lt-ltb (place k p) (length xs) (omega arith))

-- ---- the draws of every kind up to some positions
module _ (L : Lent) (p : Positions) where
  pub placed_tells : placed L p ≡ true → (k : Kind) → place k p ≤ length (slice k L)
  unfolding placed
  placed_tells e Uniform = leb-true _ _ (simp and-eq-true_iff at e).0
  placed_tells e Normal = leb-true _ _ (simp and-eq-true_iff at e).1.0
  placed_tells e Exponential = leb-true _ _ (simp and-eq-true_iff at e).1.1

  pub tells_placed : ((k : Kind) → place k p ≤ length (slice k L)) → placed L p ≡ true
  unfolding placed
  tells_placed h = rw (le-leb _ _ (h Uniform), le-leb _ _ (h Normal), le-leb _ _ (h Exponential))

-- n draws of a kind further on
pub past_place : (k : Kind) (n : ℕ) (p : Positions) → place k (past k n p) ≡ place k p + n
past_place Uniform n p = refl
past_place Normal n p = refl
past_place Exponential n p = refl

pub past_reached : (k : Kind) (n : ℕ) (L : Lent) (p : Positions) → placed L p ≡ true → place k p + n ≤ length (slice k L) → Reached L p (past k n p)
past_reached k n L p b l j = go k j l (placed_tells L p b j)
  where
    go : (k j : Kind) → place k p + n ≤ length (slice k L) → place j p ≤ length (slice j L) → (place j p ≤ place j (past k n p)) × (place j (past k n p) ≤ length (slice j L))
    go Uniform Uniform l m = omega arith
    go Uniform Normal l m = omega arith
    go Uniform Exponential l m = omega arith
    go Normal Uniform l m = omega arith
    go Normal Normal l m = omega arith
    go Normal Exponential l m = omega arith
    go Exponential Uniform l m = omega arith
    go Exponential Normal l m = omega arith
    go Exponential Exponential l m = omega arith

module _ (L L' : Lent) (p q : Positions) (r : Reached L p q) (s : SameTo q L L') where
  pub placed_later : placed L' p ≡ true
  placed_later = tells_placed L' p (λ k. omega (arith, (r k).0, as_long _ _ _ (s k) (r k).1))

  module _ (k : Kind) (i : ℕ) (l : place k p + i < place k q) where
    pub there_later : there k L' p i ≡ true
    there_later = there_too _ _ _ (s k) (r k).1 (place k p + i) l

    pub nth_later : nth k L' p i ≡ nth k L p i
    nth_later = same_draw _ _ _ (s k) (r k).1 (place k p + i) l

pub same_before : (L L' : Lent) (m q : Positions) → ((k : Kind) → place k m ≤ place k q) → SameTo q L L' → SameTo m L L'
same_before L L' m q l s k =
    sym (take-take (place k m) (place k q) (slice k L') (l k)) ∙ ap (take (place k m)) (s k) ∙ take-take (place k m) (place k q) (slice k L) (l k)

-- ---- trials among other draws: trial k of t' is as that of t, which is whole; or it halts, as that of t does
pub record Alike (t t' : Trials) (k : ℕ) : Type 0 where
  pub whole_too : t'.whole k ≡ true
  pub usable_same : t'.usable k ≡ t.usable k
  pub accepted_same : t'.accepted k ≡ t.accepted k
  pub value_same : t'.value k ≡ t.value k
  pub after_same : t'.after k ≡ t.after k

pub record Stuck (t t' : Trials) (k : ℕ) : Type 0 where
  pub halts_too : Halts t' k
  pub refusal_same : t'.refusal k ≡ t.refusal k

rejects_too : {t t' : Trials} {k : ℕ} → Alike t t' k → Rejects t k → Rejects t' k
rejects_too a h = (a.whole_too, a.usable_same ∙ h.1, a.accepted_same ∙ h.2)

pub carried : {t t' : Trials} {v : Float} {q : Positions} (h : Found t v q) → ((k : ℕ) → k ≤ h.at → Alike t t' k) → Found t' v q
carried h same =
    let a = same h.at (le_refl h.at) in
    record {
      at = h.at;
      takes = (a.whole_too, a.usable_same ∙ h.takes.1, a.accepted_same ∙ h.takes.2);
      earlier = λ j l. rejects_too (same j (le_of_lt l)) (h.earlier j l);
      value_is = h.value_is ∙ sym a.value_same;
      after_is = h.after_is ∙ sym a.after_same;
    }

pub carried_halt : {t t' : Trials} {r : Refusal} (h : Halted t r) → ((k : ℕ) → k < h.at → Alike t t' k) → Stuck t t' h.at → Halted t' r
carried_halt h same a = record {
  at = h.at;
  halts = a.halts_too;
  earlier = λ j l. rejects_too (same j l) (h.earlier j l);
  refusal_is = h.refusal_is ∙ sym a.refusal_same;
}

pub alike_valued : (f : Float → Float) {t t' : Trials} {k : ℕ} → Alike t t' k → Alike (valued f t) (valued f t') k
alike_valued f a = record {
  whole_too = a.whole_too;
  usable_same = a.usable_same;
  accepted_same = a.accepted_same;
  value_same = ap f a.value_same;
  after_same = a.after_same;
}

-- what lets the draws of those trials be counted
pub whole_to : {t : Trials} {v : Float} {q : Positions} (h : Found t v q) (k : ℕ) → k ≤ h.at → t.whole k ≡ true
whole_to {t} h k l = ⊎_elim {C = t.whole k ≡ true} (λ e. rw e h.takes.0) (λ m. (h.earlier k m).0) (eq-or-lt_of_le l)
