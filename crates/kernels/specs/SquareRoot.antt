-- IEEE 754's square root at binary64 (5.4.1, 6.3), told only by squares of whole numbers: a finite value is the fraction num / den,
-- and √x is met only where its place between two fractions is told by their squares. Definitions only.
use Rattle.std.specs.Prelude.{◌≡◌, ℕ, zero, suc, ◌+◌, ◌*◌, ◌<◌, Bool, true, false, T, Float}
use Rattle.std.specs.Float.{nan, inf, fin, binary64}
use Rattle.std.specs.Float.Ieee.{fits, lt}
use Rattle.std.specs.Float.Ieee.Positive.{num, den, positive}

abbrev pub square : ℕ → ℕ
square n = n * n

-- √x < (r + y) / 2, squared and with the denominators multiplied out
abbrev pub root_below_middle : Float → Float → Float → Type 0
root_below_middle x r y = 4 * num x * square (den r * den y) < square (num r * den y + num y * den r) * den x

-- (r + y) / 2 < √x
abbrev pub middle_below_root : Float → Float → Float → Type 0
middle_below_root x r y = square (num r * den y + num y * den r) * den x < 4 * num x * square (den r * den y)

-- finite, with the sign clear
abbrev pub unsigned : Float → Bool
unsigned nan = false
unsigned (inf s) = false
unsigned (fin true m e) = false
unsigned (fin false m e) = true

-- r is a positive number of binary64, and √x lies strictly on r's side of the middle between r and any other number y of it: r is the
-- nearest, and there is no tie. (A y below zero is farther from √x than zero is.)
pub record Nearest (x r : Float) : Type 0 where
  pub held : T (fits binary64 r)
  pub number : T (positive r)
  pub above : (y : Float) → T (fits binary64 y) → T (unsigned y) → T (lt r y) → root_below_middle x r y
  pub below : (y : Float) → T (fits binary64 y) → T (unsigned y) → T (lt y r) → middle_below_root x r y

-- the root of NaN and of anything below zero is NaN, of a zero that zero, of +∞ is +∞, of any other value the value nearest to the real root
abbrev pub SquareRoot : Float → Float → Type 0
SquareRoot nan r = r ≡ nan
SquareRoot (inf true) r = r ≡ nan
SquareRoot (fin true (suc m) e) r = r ≡ nan
SquareRoot (fin s zero e) r = r ≡ fin s zero e
SquareRoot (inf false) r = r ≡ inf false
SquareRoot (fin false (suc m) e) r = Nearest (fin false (suc m) e) r
