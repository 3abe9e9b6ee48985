-- Document 01, Kernels, ln, in the document's order. Definitions only.
use Rattle.std.specs.Prelude.{ℕ, zero, suc, ◌+◌, ◌-◌, ◌*◌, ◌^◌, Bool, true, false, ℤ, pos, ◌+ℤ◌, Float}
use Rattle.std.specs.Float.{nan, inf, fin, binary64}
use Rattle.std.specs.Float.Ieee.{lt, of_int, size}
use Rattle.kernels.specs.Numbers.{◌⊕◌, ◌⊖◌, ◌⊗◌, ◌⊘◌, quotient, one, two, half, HI, LO, ROOT}

-- 'x = m·2^e, 1 <= m < 2': a whole number n has size n binary digits, so n·2^e is n/2^(size n - 1) times 2^(e + size n - 1).
abbrev pub significand : ℕ → Float
significand n = quotient n (2 ^ (size n - 1))

abbrev pub exponent : ℕ → ℤ → ℤ
exponent n e = e +ℤ pos (size n - 1)

-- 'C_k is 1/(2k+1) rounded.'
unfoldable pub C : ℕ → Float
C k = quotient 1 (2 * k + 1)

-- 'for k = 9 down to 1, p = C_k + q·p', from any k
unfoldable pub ln_steps : ℕ → Float → Float → Float
ln_steps zero q p = p
ln_steps (suc k) q p = ln_steps k q (C (suc k) ⊕ q ⊗ p)

-- 's = (m-1)/(m+1), q = s·s. .. p = C_10, then for k = 9 down to 1, p = C_k + q·p. t = s + s·(q·p). Answer e·HI + (2·t + e·LO).'
unfoldable pub ln_sum_lem : Float → Float → Float
ln_sum_lem m e =
    let s = (m ⊖ one) ⊘ (m ⊕ one) in
    let q = s ⊗ s in
    let p = ln_steps 9 q (C 10) in
    let t = s ⊕ s ⊗ (q ⊗ p) in
    e ⊗ HI ⊕ (two ⊗ t ⊕ e ⊗ LO)

-- 'If m > ROOT, halve m and add 1 to e.'
unfoldable pub ln_halved : Bool → Float → ℤ → Float
ln_halved true m e = ln_sum_lem (m ⊗ half) (of_int binary64 (e +ℤ pos 1))
ln_halved false m e = ln_sum_lem m (of_int binary64 e)

unfoldable pub ln_at_lem : Float → ℤ → Float
ln_at_lem m e = ln_halved (lt ROOT m) m e

-- 'NaN or below 0: NaN. Either zero: minus infinity. Plus infinity: itself. Else x = m·2^e, 1 <= m < 2.'
unfoldable pub ln_of : Float → Float
ln_of nan = nan
ln_of (inf true) = nan
ln_of (fin true (suc n) e) = nan
ln_of (fin s zero e) = inf true
ln_of (inf false) = inf false
ln_of (fin false (suc n) e) = ln_at_lem (significand (suc n)) (exponent (suc n) e)
