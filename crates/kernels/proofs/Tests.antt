-- What the tests of the kernels tell of a value: which of its kinds it is, and the rules at each.
use Rattle.std.proofs.Common.{◌≡◌, ℕ, zero, suc, Bool, true, false, T, ℤ, pos, sym, refl, ap, ◌∙◌, subst, true≢false}
use lib.Dec.{not_T}
use lib.Ieee.{Float, nan, inf, fin, lt, le, ne, eq, is_nan}
use lib.Ieee.Bits.{is_false}
use lib.Ieee.Compare.{differs_from_itself}
use lib.Ieee.Positive.{above, above_of_le}
use Rattle.kernels.specs.Numbers.{nought}
use Rattle.kernels.specs.Ln.{ln_of}
use Rattle.kernels.specs.Exp.{exp_of, exp_case, exp_between_lem, UPPER, LOWER}
use Rattle.kernels.specs.Sqrt.{sqrt_of}
use Rattle.kernels.proofs.Open.{rules}
use Rattle.kernels.proofs.Patterns.{number_above, number_differs, zero_equals}

-- x != x exactly for a NaN
pub is_nan_lem : (x : Float) → ne x x ≡ true → is_nan x ≡ true
unfolding is_nan
is_nan_lem x h = ap is_nan (differs_from_itself x (subst T (sym h) tt))

pub no_nan : (x : Float) → ne x x ≡ false → is_nan x ≡ false
unfolding is_nan ne eq
no_nan nan h = absurd (true≢false h)
no_nan (inf s) h = refl
no_nan (fin s m e) h = refl

pub nan_only : (x : Float) → is_nan x ≡ true → nan ≡ x
unfolding is_nan
nan_only nan h = refl
nan_only (inf s) h = absurd (true≢false (sym h))
nan_only (fin s m e) h = absurd (true≢false (sym h))

-- either zero; and NaN or below 0
abbrev pub Zero : Float → Type 0
Zero nan = ⊥
Zero (inf s) = ⊥
Zero (fin s zero e) = Unit {0}
Zero (fin s (suc m) e) = ⊥

abbrev pub Invalid : Float → Type 0
Invalid nan = Unit {0}
Invalid (inf s) = T s
Invalid (fin s zero e) = ⊥
Invalid (fin s (suc m) e) = T s

-- x == 0.0 exactly for a zero
pub is_zero : (x : Float) → eq x nought ≡ true → Zero x
unfolding eq
is_zero nan h = absurd (true≢false (sym h))
is_zero (inf s) h = absurd (true≢false (sym h))
is_zero (fin s zero e) h = tt
is_zero (fin s (suc m) e) h = absurd (true≢false (sym h ∙ number_differs s m e))

-- what is neither above 0 nor a zero
pub is_invalid : (x : Float) → lt nought x ≡ false → eq x nought ≡ false → Invalid x
unfolding lt
is_invalid nan h k = tt
is_invalid (inf true) h k = tt
is_invalid (inf false) h k = absurd (true≢false h)
is_invalid (fin s zero e) h k = absurd (true≢false (sym (zero_equals s e) ∙ k))
is_invalid (fin true (suc m) e) h k = tt
is_invalid (fin false (suc m) e) h k = absurd (true≢false (sym (number_above m e) ∙ h))

pub ln_zero : (x : Float) → Zero x → ln_of x ≡ inf true
unfolding ln_of
ln_zero nan z = elim z [ ]
ln_zero (inf _) z = elim z [ ]
ln_zero (fin false (suc _) e) z = elim z [ ]
ln_zero (fin true (suc _) e) z = elim z [ ]
ln_zero (fin true zero e) z = refl
ln_zero (fin false zero e) z = refl

-- what is NaN at each kind of them, is NaN at all
by_kinds : (f : Float → Float) → f nan ≡ nan → f (inf true) ≡ nan → ((m : ℕ) (e : ℤ) → f (fin true (suc m) e) ≡ nan) → (x : Float) → Invalid x → f x ≡ nan
by_kinds f a b c nan i = a
by_kinds f a b c (inf true) i = b
by_kinds f a b c (inf false) i = absurd i
by_kinds f a b c (fin true (suc m) e) i = c m e
by_kinds f a b c (fin false zero e) i = elim i [ ]
by_kinds f a b c (fin true zero e) i = elim i [ ]
by_kinds f a b c (fin false (suc m) e) i = absurd i

pub ln_invalid : (x : Float) → Invalid x → ln_of x ≡ nan
unfolding ln_of
ln_invalid = by_kinds ln_of refl refl (λ m e. refl)

-- `exp_of` by the answers to the three tests
pub exp_by_tests : (x : Float) (n h l : Bool) → is_nan x ≡ n → le UPPER x ≡ h → le x LOWER ≡ l → exp_case n h l x ≡ exp_of x
unfolding exp_of
exp_by_tests x n h l a b c =
    sym (ap (λ (t : Bool). exp_case t (le UPPER x) (le x LOWER) x) a ∙ ap (λ (t : Bool). exp_case n t (le x LOWER) x) b ∙ ap (λ (t : Bool). exp_case n h t x) c)

-- at the limit itself the steps give +0 too, so that no result tells whether it is included
pub limit_unseen : exp_between_lem LOWER ≡ nought
unfolding rules
limit_unseen = refl

-- what is at most the lower limit is no NaN, and not above 0
low_number : (x : Float) → le x LOWER ≡ true → is_nan x ≡ false
unfolding is_nan le
low_number nan h = absurd (true≢false (sym h))
low_number (inf s) h = refl
low_number (fin s m e) h = refl

low_not_above : (x : Float) → le x LOWER ≡ true → T (above x) → ⊥
unfolding le
low_not_above nan h a = a
low_not_above (inf true) h a = a
low_not_above (inf false) h a = true≢false (sym h)
low_not_above (fin true m e) h a = a
low_not_above (fin false m e) h a = above_of_le (fin false m e) LOWER a (subst T (sym h) tt)

-- exp is +0 at every x at most -746, minus infinity included: what reached 710 would be above 0
pub exp_flat : (x : Float) → le x (fin true 373 (pos 1)) ≡ true → exp_of x ≡ nought
unfolding exp_case
exp_flat x h =
    let u : le UPPER x ≡ false = is_false (le UPPER x) (not_T (le UPPER x) (λ t. low_not_above x h (above_of_le UPPER x tt t))) in
    sym (exp_by_tests x false false true (low_number x h) u h)

pub sqrt_zero : (x : Float) → Zero x → sqrt_of x ≡ x
unfolding sqrt_of
sqrt_zero nan z = elim z [ ]
sqrt_zero (inf _) z = elim z [ ]
sqrt_zero (fin false (suc _) e) z = elim z [ ]
sqrt_zero (fin true (suc _) e) z = elim z [ ]
sqrt_zero (fin true zero e) z = refl
sqrt_zero (fin false zero e) z = refl

pub sqrt_invalid : (x : Float) → Invalid x → sqrt_of x ≡ nan
unfolding sqrt_of
sqrt_invalid = by_kinds sqrt_of refl refl (λ m e. refl)
