-- `io` writes as many digits as a number needs: of 64 bits that is 16 in hex with zeros in front, and at most 20 in decimal, where
-- the fewest are those that `decimal_of` writes. Assumes nothing.
use Prim.Native.Nat.{ℕ, zero, suc, ◌*◌, ◌-◌, ◌/◌, ◌%◌, ◌^◌, ◌≤◌, ◌<◌}
use native.Mathlib.Nat.{pow-suc, pow-le-pow_right}
use native.Mathlib.Omega.{arith}
use mathlib.Core.Path.{◌≡◌, refl, ap, ◌∙◌}
use mathlib.Core.List.{List, [], ◌∷◌}
use mathlib.Core.Bool.{Bool, true, false, cond}
use lib.ListN.{length, length-append}
use lib.Dec.{ltb}
use borrow.Author.Tests.{lt-ltb, le-ltb, ltb-true, ltb-false}
use Rattle.io.specs.Digits.{last_digits, hex_digit_ascii, IsDigitCount}
use Rattle.texts.specs.Numbers.{hex_text, decimal_of, decimal_text}

pub by_cases : {P : Type 0} (t : Bool) → (t ≡ true → P) → (t ≡ false → P) → P
by_cases true f g = f refl
by_cases false f g = g refl

-- the fewest digits of a number below b ^ w are at most w
pub fewest_within : (b least w : ℕ) {n k : ℕ} → 0 < b → least ≤ w → n < b ^ w → IsDigitCount b least n k → k ≤ w
fewest_within b least w {n} {k} p l h f =
    by_cases (ltb w k)
    (λ t. let m : w ≤ k - 1 = omega (arith, ltb-true w k t) in
    absurd (omega (arith, f.2 (omega (arith, ltb-true w k t)), pow-le-pow_right {n = b} p m)))
    (λ t. ltb-false w k t)

-- ---- hex

pub digits_length : (b k n : ℕ) → length (last_digits b k n) ≡ k
digits_length b zero n = refl
digits_length b (suc k) n = length-append (last_digits b k (n / b)) (hex_digit_ascii (n % b) ∷ []) ∙ omega (arith, digits_length b k (n / b))

pub hex_length : (n : ℕ) → length (hex_text n) ≡ 16
unfolding hex_text
hex_length n = digits_length 16 16 n

pub hex_is : {n k : ℕ} {t : List ℕ} → n < 2 ^ 64 → IsDigitCount 16 16 n k → t ≡ last_digits 16 k n → t ≡ hex_text n
unfolding hex_text
hex_is {n} {k} h f e =
    let w : k ≡ 16 = omega (arith, fewest_within 16 16 16 {n = n} {k = k} (omega arith) (omega arith) (omega arith) f, f.0) in
    e ∙ ap (λ (j : ℕ). last_digits 16 j n) w

-- ---- decimal

one_less : (k : ℕ) → suc k - 1 ≡ k
one_less k = omega arith

power_positive : (k : ℕ) → 0 < 10 ^ k
power_positive k = pow-le-pow_right {n = 10} (omega arith) {i = 0} {j = k} (omega arith)

fewest_are : (f k n : ℕ) → k ≤ f → IsDigitCount 10 1 n k → last_digits 10 k n ≡ decimal_of f n
unfolding decimal_of
fewest_are f zero n l w = absurd (omega (arith, w.0))
fewest_are zero (suc k) n l w = absurd (omega arith)
fewest_are (suc f) (suc zero) n l w = rw (lt-ltb n 10 (omega (arith, w.1)))
fewest_are (suc f) (suc (suc j)) n l w =
    let below : n < 10 ^ j * 10 * 10 = simp pow-suc at w.1 in
    let above : 10 ^ j * 10 ≤ n = simp (one_less, pow-suc) at (w.2 (omega arith)) in
    let p = power_positive j in
    let shorter : IsDigitCount 10 1 (n / 10) (suc j) = (omega arith, rw pow-suc (omega arith), λ _. rw one_less (omega arith)) in
    rw (le-ltb n 10 (omega arith), ← fewest_are f (suc j) (n / 10) (omega arith) shorter)

pub decimal_is : {n k : ℕ} {t : List ℕ} → n < 2 ^ 64 → IsDigitCount 10 1 n k → t ≡ last_digits 10 k n → t ≡ decimal_text n
unfolding decimal_text
decimal_is {n} {k} h f e = e ∙ fewest_are 20 k n (fewest_within 10 1 20 (omega arith) (omega arith) (omega arith) f) f

leading_length : (t : Bool) (l : List ℕ) → length (cond t [] l) ≤ length l
leading_length true l = omega arith
leading_length false l = omega arith

decimal_of_length : (f n : ℕ) → length (decimal_of f n) ≤ f
unfolding decimal_of
decimal_of_length zero n = omega arith
decimal_of_length (suc f) n = rw length-append (omega (arith, leading_length (ltb n 10) (decimal_of f (n / 10)), decimal_of_length f (n / 10)))

pub decimal_length : (n : ℕ) → length (decimal_text n) ≤ 20
unfolding decimal_text
decimal_length n = decimal_of_length 20 n
