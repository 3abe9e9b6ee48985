-- Whole numbers: products with powers of two. `Whole` of roots has squares.
use Rattle.std.proofs.Common.{◌≡◌, ℕ, suc, ◌+◌, ◌*◌, ◌^◌, ◌<◌, ◌≤◌, sym, refl, ap, ◌∙◌, le_trans, le_of_eq, le_refl, le_of_suc-le-suc, lt_of_le_of_lt, mul-le-mul_right, mul_assoc, lt_of_not-le, not-le_of_lt, pow_mono, pow-add}
use lib.Pow.{pow-lt}

pub gather : (m a b c : ℕ) → a + b ≡ c → m * 2 ^ a * 2 ^ b ≡ m * 2 ^ c
gather m a b c h = mul_assoc m (2 ^ a) (2 ^ b) ∙ ap (λ (p : ℕ). m * p) (sym (pow-add 2 a b)) ∙ ap (λ (p : ℕ). m * 2 ^ p) h

pub gather₃ : (m a b c d : ℕ) → a + b + c ≡ d → m * 2 ^ a * 2 ^ b * 2 ^ c ≡ m * 2 ^ d
gather₃ m a b c d h = ap (λ (p : ℕ). p * 2 ^ c) (gather m a b (a + b) refl) ∙ gather m (a + b) c d h

pub exponent_lt : {a b : ℕ} → 2 ^ a < 2 ^ b → a < b
exponent_lt h = lt_of_not-le (λ l. not-le_of_lt h (pow_mono l))

pub exponent_le : {a b : ℕ} → 2 ^ a ≤ 2 ^ b → a ≤ b
exponent_le {a} {b} h = le_of_suc-le-suc (exponent_lt {a = a} {b = suc b} (lt_of_le_of_lt h (pow-lt (le_refl (suc b)))))

-- beside `shl_lt` of lib.Pow
pub shl_le : {a : ℕ} (j k : ℕ) → 2 ^ j ≤ a → 2 ^ (j + k) ≤ a * 2 ^ k
shl_le j k h = le_trans (le_of_eq (pow-add 2 j k)) (mul-le-mul_right (2 ^ k) h)
