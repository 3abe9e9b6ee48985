-- How many binary digits a number has, from the powers of two on both sides of it, and after a shift.
use Rattle.std.proofs.Common.{◌≡◌, ℕ, suc, ◌+◌, ◌-◌, ◌*◌, ◌^◌, ◌<◌, ◌≤◌, ◌∙◌, subst, lt_of_le_of_lt, le_antisymm, arith, shl_lt}
use lib.Ieee.{size}
use lib.Ieee.Digits.{size-lt, size_reaches, size-le}
use Rattle.kernels.proofs.Products.{exponent_lt, shl_le}

pub size_is : (n j : ℕ) → 2 ^ j ≤ n → n < 2 ^ suc j → size n ≡ suc j
size_is n j l h = le_antisymm (size-le n (suc j) h) (exponent_lt (lt_of_le_of_lt l (size-lt n)))

pub size_pos : (n : ℕ) → 0 < n → 0 < size n
size_pos n p = exponent_lt (lt_of_le_of_lt p (size-lt n))

pub size_shift : (n k : ℕ) → 0 < n → size (n * 2 ^ k) ≡ size n + k
size_shift n k p =
    let j = size n - 1 in
    let s : size n ≡ suc j = omega (arith, size_pos n p) in
    let l : 2 ^ j ≤ n = size_reaches n j (omega arith) in
    let h : n < 2 ^ suc j = subst (λ (i : ℕ). n < 2 ^ i) s (size-lt n) in
    size_is (n * 2 ^ k) (j + k) (shl_le j k l) (subst (λ (i : ℕ). n * 2 ^ k < 2 ^ i) (at j) (shl_lt (suc j) k h)) ∙ omega arith
  where
    at : (j : ℕ) → suc j + k ≡ suc (j + k)
    at j = omega arith
