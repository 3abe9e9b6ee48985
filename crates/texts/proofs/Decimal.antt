-- A decimal text gives its number back, digit by digit, so two numbers have one text only where they are equal; and a number above 0
-- starts with the digit of what is left when all its other digits are divided away, which is above 0 too. Assumes nothing.
use Prim.Native.Nat.{ℕ, zero, suc, ◌+◌, ◌*◌, ◌-◌, ◌/◌, ◌%◌, ◌^◌, ◌≤◌, ◌<◌}
use native.Mathlib.Nat.{pow-suc}
use native.Mathlib.Omega.{arith}
use mathlib.Core.Path.{◌≡◌, refl, sym, ap, ◌∙◌, subst}
use mathlib.Core.List.{List, [], ◌∷◌, ◌++◌}
use lib.Dec.{ltb}
use borrow.Author.Tests.{lt-ltb, le-ltb, ltb-true, ltb-false}
use Rattle.io.specs.Digits.{hex_digit_ascii}
use Rattle.texts.specs.Numbers.{decimal_of, decimal_text}
use Rattle.texts.proofs.Digits.{by_cases}

-- the number that digits stand for, after those that make v
abbrev pub value_from : ℕ → List ℕ → ℕ
value_from v [] = v
value_from v (x ∷ t) = value_from (v * 10 + (x - 48)) t

value_last : (v : ℕ) (t : List ℕ) (x : ℕ) → value_from v (t ++ (x ∷ [])) ≡ value_from v t * 10 + (x - 48)
value_last v [] x = refl
value_last v (y ∷ t) x = value_last (v * 10 + (y - 48)) t x

digit_glyph : (n : ℕ) → hex_digit_ascii (n % 10) ≡ 48 + n % 10
digit_glyph n = rw (lt-ltb (n % 10) 10 (omega arith))

module _ (f n : ℕ) where
  pub one_digit : n < 10 → decimal_of (suc f) n ≡ (48 + n) ∷ []
  unfolding decimal_of
  one_digit h = let e : n % 10 ≡ n = omega arith in rw (lt-ltb n 10 h) (ap (λ (x : ℕ). x ∷ []) (digit_glyph n ∙ ap (λ (x : ℕ). 48 + x) e))

  pub more_digits : 10 ≤ n → decimal_of (suc f) n ≡ decimal_of f (n / 10) ++ ((48 + n % 10) ∷ [])
  unfolding decimal_of
  more_digits h = rw (le-ltb n 10 h) (ap (λ (x : ℕ). decimal_of f (n / 10) ++ (x ∷ [])) (digit_glyph n))

pub value_back : (f n : ℕ) → n < 10 ^ f → value_from 0 (decimal_of f n) ≡ n
unfolding decimal_of
value_back zero n h = omega arith
value_back (suc f) n h =
    let s : n < 10 ^ f * 10 = rw pow-suc at h in
    by_cases (ltb n 10)
    (λ t. ap (value_from 0) (one_digit f n (ltb-true n 10 t)) ∙ omega arith)
    (λ t. ap (value_from 0) (more_digits f n (ltb-false n 10 t))
    ∙ value_last 0 (decimal_of f (n / 10)) (48 + n % 10)
    ∙ omega (arith, value_back f (n / 10) (omega arith)))

-- two numbers of 64 bits with the same text are the same
pub decimal_unique : (n m : ℕ) → n < 2 ^ 64 → m < 2 ^ 64 → decimal_text n ≡ decimal_text m → n ≡ m
unfolding decimal_text
decimal_unique n m h k e = sym (value_back 20 n (omega arith)) ∙ ap (value_from 0) e ∙ value_back 20 m (omega arith)

record FirstDigit (t : List ℕ) : Type 0 where
  less_one : ℕ
  others : List ℕ
  text_is : t ≡ (49 + less_one) ∷ others

followed : {t : List ℕ} (u : List ℕ) → FirstDigit t → FirstDigit (t ++ u)
followed u d = record { less_one = d.less_one; others = d.others ++ u; text_is = ap (λ (z : List ℕ). z ++ u) d.text_is }

first_digit : (f n : ℕ) → 0 < n → n < 10 ^ f → FirstDigit (decimal_of f n)
first_digit zero n p h = absurd (omega arith)
first_digit (suc f) n p h =
    let s : n < 10 ^ f * 10 = rw pow-suc at h in
    by_cases (ltb n 10)
    (λ t. let e : 48 + n ≡ 49 + (n - 1) = omega arith in
    record { less_one = n - 1; others = []; text_is = one_digit f n (ltb-true n 10 t) ∙ ap (λ (x : ℕ). x ∷ []) e })
    (λ t. let a = ltb-false n 10 t in
    subst FirstDigit (sym (more_digits f n a)) (followed ((48 + n % 10) ∷ []) (first_digit f (n / 10) (omega arith) (omega arith))))

-- no text of more than one digit starts with a zero
pub no_leading_zero : (n x : ℕ) (t : List ℕ) → n < 2 ^ 64 → decimal_text n ≡ 48 ∷ x ∷ t → ⊥
unfolding decimal_text
no_leading_zero n x t h e =
    by_cases (ltb 0 n)
    (λ p. let i = first_digit 20 n (ltb-true 0 n p) (omega arith) in
    let d : 48 ≡ 49 + i.less_one = cc in omega arith)
    (λ p. let z : n ≡ 0 = omega (arith, ltb-false 0 n p) in
    let o = one_digit 19 n (omega arith) in
    let w : ◌≡◌ {A = ℕ} 0 1 = cc in omega arith)
