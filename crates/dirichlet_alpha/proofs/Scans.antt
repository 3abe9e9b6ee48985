-- What the checks leave: each test that they passed, and that none of them refuses for a draw. What a loop has left to look at settles what the
-- whole list does: a list from index i on is the element there and what follows it.
use Prim.Native.Nat.{ℕ, suc, ◌+◌, ◌<◌, ◌≤◌, zero-le}
use native.Mathlib.Numerals.{add-one}
use native.Mathlib.Omega.{arith}
use borrow.Author.Tests.{ltb-false, eqb-true}
use mathlib.Core.Path.{◌≡◌, refl, sym, ◌∙◌}
use mathlib.Core.List.{List, [], ◌∷◌}
use mathlib.Core.Bool.{Bool, true, false, cond}
use lib.Dec.{ltb, eqb}
use lib.ListN.{length, get_or, drop, drop_of_length-le}
use lib.Seq.{drop-cons}
use lib.Ieee.{Float, nan}
use Rattle.draws.specs.declared.Refusal.{Refusal}
use Rattle.dirichlet_alpha.specs.declared.Refused.{Refused}
use Rattle.dirichlet_alpha.specs.declared.Refused.TheVariants.{AlphaTooShort, AlphaTooLong, OutputLength, Draws}
use Rattle.dirichlet_alpha.specs.Alpha.{judged, element_of, or_else, scanned, unless, checked_of, Checked}
use Rattle.std.specs.Prelude.{Err, Ok}

-- ---- a rule f over what is left of a list and the index where that starts
pub record Left {A : Type 0} (f : List Float → ℕ → A) (xs : List Float) (i : ℕ) : Type 0 where
  pub within : i ≤ length xs
  pub same : f xs 0 ≡ f (drop i xs) i

pub left_starts : {A : Type 0} (f : List Float → ℕ → A) (xs : List Float) → Left f xs 0
left_starts f xs = record { within = zero-le; same = refl }

module _ {A : Type 0} {f : List Float → ℕ → A} {xs : List Float} {i : ℕ} (h : Left f xs i) where
  pub left_at : i < length xs → f xs 0 ≡ f (get_or xs i nan ∷ drop (suc i) xs) i
  left_at l = h.same ∙ rw (drop-cons xs i nan)

  pub left_next : i < length xs → f (get_or xs i nan ∷ drop (suc i) xs) i ≡ f (drop (suc i) xs) (suc i) → Left f xs (i + 1)
  left_next l e = record { within = omega arith; same = rw (add-one i) (left_at l ∙ e) }

  pub left_ends : length xs ≤ i → f xs 0 ≡ f [] i
  left_ends l = h.same ∙ rw (drop_of_length-le xs l)

-- ---- the scan of what is left from index i on is the test of the element there and the scan of what follows
pub scanned_at : (xs : List Float) (i : ℕ) → i < length xs → scanned (drop i xs) i ≡ or_else (element_of (get_or xs i nan) i) (scanned (drop (i + 1) xs) (i + 1))
unfolding scanned
scanned_at xs i l = rw (drop-cons xs i nan, add-one i)

-- ---- what is refused by nothing passed each test
pub both_fine : (x y : Checked) → or_else x y ≡ Ok tt → (x ≡ Ok tt) × (y ≡ Ok tt)
both_fine (Ok _) y h = (refl, h)
both_fine (Err r) y h = absurd cc

pub test_fine : (b : Bool) (r : Refused) → cond {A = Checked} b (Ok tt) (Err r) ≡ Ok tt → b ≡ true
test_fine true r h = refl
test_fine false r h = absurd cc

fine_tests : (a b d : Bool) (s : Checked) → unless a AlphaTooShort (unless b AlphaTooLong (or_else s (cond {A = Checked} d (Ok tt) (Err OutputLength)))) ≡ Ok tt
    → (a ≡ false) × (b ≡ false) × (s ≡ Ok tt) × (d ≡ true)
fine_tests false false d s h = let (e, t) = both_fine s _ h in (refl, refl, e, test_fine d OutputLength t)
fine_tests false true d s h = absurd cc
fine_tests true b d s h = absurd cc

module _ (alpha : List Float) (n : ℕ) (h : checked_of alpha n ≡ Ok tt) where
  tests : (ltb (length alpha) 2 ≡ false) × (ltb 4096 (length alpha) ≡ false) × (scanned alpha 0 ≡ Ok tt) × (eqb (length alpha) n ≡ true)
  unfolding checked_of
  tests = fine_tests (ltb (length alpha) 2) (ltb 4096 (length alpha)) (eqb (length alpha) n) (scanned alpha 0) h

  pub checked_fine : (n ≡ length alpha) × (2 ≤ length alpha) × (scanned alpha 0 ≡ Ok tt)
  checked_fine = let (a, b, s, d) = tests in (sym (eqb-true _ _ d), ltb-false _ _ a, s)

  pub not_long : length alpha ≤ 4096
  not_long = ltb-false _ _ tests.1

-- ---- nothing is refused for a draw before any is read
abbrev NoDraw : Checked → Type 0
NoDraw x = (r : Refusal) → ¬ (x ≡ Err (Draws r))

either_no_draw : (x y : Checked) → NoDraw x → NoDraw y → NoDraw (or_else x y)
either_no_draw (Ok _) y h i = i
either_no_draw (Err w) y h i = h

judged_no_draw : (a b c : Bool) (i : ℕ) → NoDraw (judged a b c i)
unfolding judged
judged_no_draw false b c i r e = cc
judged_no_draw true true c i r e = cc
judged_no_draw true false true i r e = cc
judged_no_draw true false false i r e = cc

scanned_no_draw : (xs : List Float) (i : ℕ) → NoDraw (scanned xs i)
unfolding scanned element_of
scanned_no_draw [] i r e = cc
scanned_no_draw (x ∷ xs) i r e = either_no_draw (element_of x i) (scanned xs (suc i)) (judged_no_draw _ _ _ i) (scanned_no_draw xs (suc i)) r e

tests_no_draw : (a b d : Bool) (s : Checked) → NoDraw s → NoDraw (unless a AlphaTooShort (unless b AlphaTooLong (or_else s (cond {A = Checked} d (Ok tt) (Err OutputLength)))))
tests_no_draw true b d s h r e = cc
tests_no_draw false true d s h r e = cc
tests_no_draw false false true s h r e = either_no_draw s (Ok tt) h (λ r e. cc) r e
tests_no_draw false false false s h r e = either_no_draw s (Err OutputLength) h (λ r e. cc) r e

pub checked_no_draw : (alpha : List Float) (n : ℕ) (r : Refusal) → ¬ (checked_of alpha n ≡ Err (Draws r))
unfolding checked_of
checked_no_draw alpha n = tests_no_draw (ltb (length alpha) 2) (ltb 4096 (length alpha)) (eqb (length alpha) n) (scanned alpha 0) (scanned_no_draw alpha 0)
