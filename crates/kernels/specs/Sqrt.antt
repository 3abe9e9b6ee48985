-- Document 01, Kernels, sqrt, as a rule that computes. `SquareRoot` says what IEEE 754 asks, and the theorem `sqrt_is_root` that this rule answers it. Definitions only.
use Rattle.std.specs.Prelude.{ℕ, zero, suc, ◌-◌, ◌*◌, ◌/◌, ◌^◌, true, false, ℤ, Float}
use Rattle.std.specs.Float.{nan, inf, fin}
use Rattle.std.specs.Float.Ieee.{size, up, down}
use Rattle.roots.specs.Roots.{floor_root, nearer}
use Rattle.kernels.specs.Numbers.{quotient}

-- The root of n·2^-2148, rounded to 53 digits. n is N·2^2w with N of 105 or 106 digits, √N has 53 before the point, and the nearest whole number to it stands w places up.
unfoldable pub root_placed : ℕ → ℕ → Float
root_placed n w = let N = n / 2 ^ (2 * w) in quotient (nearer N (floor_root 53 N) * 2 ^ w) (2 ^ 1074)

unfoldable pub root_of : ℕ → Float
root_of n = root_placed n ((size n - 105) / 2)

-- x as a whole number of units of 2^-1074, which every value of binary64 is
abbrev pub units_of : ℕ → ℤ → ℕ
units_of m e = m * up e * 2 ^ 1074 / down e

-- NaN and what is below 0: NaN. A zero and plus infinity: itself. Else the root, rounded once.
unfoldable pub sqrt_of : Float → Float
sqrt_of nan = nan
sqrt_of (inf true) = nan
sqrt_of (fin true (suc m) e) = nan
sqrt_of (fin s zero e) = fin s zero e
sqrt_of (inf false) = inf false
sqrt_of (fin false (suc m) e) = root_of (units_of (suc m) e * 2 ^ 1074)
