-- What 12 to 14 leave of alpha is at least 2^-1022, and a sum of such numbers rounds to no less: alpha's elements are above 0, and so are its tails.
use Prim.Native.Nat.{ℕ, zero, suc, ◌^◌, ◌<◌}
use borrow.Author.Tests.{ltb-false}
use mathlib.Core.Path.{◌≡◌, refl, sym}
use mathlib.Core.List.{List, [], ◌∷◌}
use mathlib.Core.Bool.{Bool, true, false, true≢false, and-eq-true_iff}
use lib.ListN.{length, get_or, drop}
use lib.Dec.{T, lit≤, lit<}
use lib.IntN.{negsuc}
use lib.Seq.{drop-cons}
use lib.Pow.{pow_pos}
use lib.Ieee.{Float, nan, inf, fin, lt, le, eq}
use Rattle.kernels.specs.Numbers.{◌⊕◌, quotient, nought, pow2, clear}
use Rattle.kernels.specs.Inner.{Low}
use Rattle.kernels.proofs.Lows.{floor, add_more, low_above}
use Rattle.dirichlet_alpha.specs.Alpha.{judged, element_of, scanned, all_small_lem}
use Rattle.dirichlet_alpha.proofs.Scans.{both_fine}
use Rattle.std.specs.Prelude.{Ok}

-- ---- at least 2^-1022
abbrev pub Least : Float → Type 0
Least x = T (clear x) × Low (2 ^ 1022) 1 x

pub sums : (a b : Float) → Least a → Least b → Least (a ⊕ b)
sums a b (p, u) (q, v) = add_more (2 ^ 1022) 1 a b (pow_pos 1022) (floor 1022 1 (lit≤ tt) (lit< tt)) p q u

pub is_above : (x : Float) → Least x → lt nought x ≡ true
is_above x (p, u) = low_above (2 ^ 1022) 1 x p (lit< tt) u

-- by the tests: above 0 and not subnormal
of_normal : (x : Float) → lt nought x ≡ true → lt x (pow2 (negsuc 1021)) ≡ false → Least x
unfolding lt
of_normal nan h k = absurd (true≢false (sym h))
of_normal (inf true) h k = absurd (true≢false (sym h))
of_normal (inf false) h k = (tt, tt)
of_normal (fin true m e) h k = absurd (true≢false (sym h))
of_normal (fin false m e) h k = (tt, ltb-false _ _ k)

-- ---- a scanned alpha
judged_fine : (a b c : Bool) (i : ℕ) → judged a b c i ≡ Ok tt → (a ≡ true) × (b ≡ false) × (c ≡ false)
unfolding judged
judged_fine true false false i h = (refl, refl, refl)
judged_fine true false true i h = absurd cc
judged_fine true true c i h = absurd cc
judged_fine false b c i h = absurd cc

-- above 0, neither infinite nor subnormal
first_tests : (x : Float) (xs : List Float) (j : ℕ) → scanned (x ∷ xs) j ≡ Ok tt
    → (lt nought x ≡ true) × (eq x (inf false) ≡ false) × (lt x (pow2 (negsuc 1021)) ≡ false) × (scanned xs (suc j) ≡ Ok tt)
unfolding scanned element_of
first_tests x xs j h =
    let (e, rest) = both_fine (element_of x j) (scanned xs (suc j)) h in
    let (a, b, c) = judged_fine _ _ _ j e in
    (a, b, c, rest)

-- 'all are <= 0.1'
pub first_small : (x : Float) (xs : List Float) → all_small_lem (x ∷ xs) ≡ true → (le x (quotient 1 10) ≡ true) × (all_small_lem xs ≡ true)
unfolding all_small_lem
first_small x xs h = simp and-eq-true_iff at h

pub first_least : (x : Float) (xs : List Float) (j : ℕ) → scanned (x ∷ xs) j ≡ Ok tt → Least x × (scanned xs (suc j) ≡ Ok tt)
first_least x xs j h = let (a, b, c, rest) = first_tests x xs j h in (of_normal x a c, rest)

pub first_finite : (x : Float) (xs : List Float) (j : ℕ) → scanned (x ∷ xs) j ≡ Ok tt → eq x (inf false) ≡ false
first_finite x xs j h = (first_tests x xs j h).1

pub dropped : (i j : ℕ) (xs : List Float) → scanned xs j ≡ Ok tt → (k : ℕ) × (scanned (drop i xs) k ≡ Ok tt)
dropped zero j xs h = (j, h)
dropped (suc i) j [] h = (j, h)
dropped (suc i) j (x ∷ xs) h = dropped i (suc j) xs (first_least x xs j h).1

pub element_above : (alpha : List Float) → scanned alpha 0 ≡ Ok tt → (i : ℕ) → i < length alpha → lt nought (get_or alpha i nan) ≡ true
element_above alpha h i l =
    let (k, e) = dropped i 0 alpha h in
    is_above _ (first_least (get_or alpha i nan) (drop (suc i) alpha) k (rw (← drop-cons alpha i nan l) e)).0
