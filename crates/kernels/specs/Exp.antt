-- Document 01, Kernels, exp, in the document's order. Definitions only.
use Rattle.std.specs.Prelude.{ℕ, zero, suc, ◌*◌, ◌/◌, Bool, true, false, cond, ℤ, pos, negsuc, ◌-ℤ◌, is_nan, Float}
use Rattle.std.specs.Float.{nan, inf, fin, binary64}
use Rattle.std.specs.Float.Ieee.{le, of_int, to_signed}
use Rattle.kernels.specs.Numbers.{◌⊕◌, ◌⊖◌, ◌⊗◌, quotient, pow2, nought, half, HI, LO, INV}

-- the limits: 710, and -746 ('Change the lower limit to -746', document 02, #102)
abbrev pub UPPER : Float
UPPER = fin false 355 (pos 1)

abbrev pub LOWER : Float
LOWER = fin true 373 (pos 1)

-- 'k is y + 0.5 cut toward zero where y >= 0, else y - 0.5 cut toward zero.'
unfoldable pub cut_of : Float → ℤ
cut_of y = to_signed 63 (cond (le nought y) (y ⊕ half) (y ⊖ half))

abbrev pub factorial : ℕ → ℕ
factorial zero = 1
factorial (suc n) = suc n * factorial n

-- 'D_j is 1/j! rounded.'
unfoldable pub D : ℕ → Float
D j = quotient 1 (factorial j)

-- 'for j = 12 down to 0, p = D_j + r·p', from the j below any number
unfoldable pub exp_steps : ℕ → Float → Float → Float
exp_steps zero r p = p
exp_steps (suc j) r p = exp_steps j r (D j ⊕ r ⊗ p)

-- 'r = (x - k·HI) - k·LO. .. p = D_13, then for j = 12 down to 0, p = D_j + r·p.'
unfoldable pub exp_sum_lem : Float → Float → Float
exp_sum_lem x k =
    let r = (x ⊖ k ⊗ HI) ⊖ k ⊗ LO in
    exp_steps 13 r (D 13)

-- 'h the floor of k/2'
abbrev pub floor_half : ℤ → ℤ
floor_half (pos n) = pos (n / 2)
floor_half (negsuc n) = negsuc (n / 2)

-- 'Answer (p·2^h)·2^(k-h), h the floor of k/2.' Of a small x 'the second scaling then rounds into the subnormal range' (document 02, #102).
unfoldable pub exp_scaled_lem : Float → ℤ → Float
exp_scaled_lem p k = let h = floor_half k in (p ⊗ pow2 h) ⊗ pow2 (k -ℤ h)

unfoldable pub exp_at_lem : Float → ℤ → Float
exp_at_lem x k = exp_scaled_lem (exp_sum_lem x (of_int binary64 k)) k

-- 'Else y = x·INV': what exp is between the limits
unfoldable pub exp_between_lem : Float → Float
exp_between_lem x = exp_at_lem x (cut_of (x ⊗ INV))

-- 'NaN: NaN. x >= 710: plus infinity. x <= [-746]: +0. Else ..': x by the answers to the three tests
unfoldable pub exp_case : Bool → Bool → Bool → Float → Float
exp_case true high low x = nan
exp_case false true low x = inf false
exp_case false false true x = nought
exp_case false false false x = exp_between_lem x

unfoldable pub exp_of : Float → Float
exp_of x = exp_case (is_nan x) (le UPPER x) (le x LOWER) x
