-- What the kernels' inner steps promise each other: a pattern's digits, bounds of floats. No rule of document 01 is here. Definitions only.
use Rattle.std.specs.Prelude.{◌≡◌, ℕ, ◌+◌, ◌-◌, ◌*◌, ◌/◌, ◌%◌, ◌^◌, ◌<◌, ◌≤◌, cond, ℤ, nat_lt, Float}
use Rattle.std.specs.Int.Signed.{mag}
use Rattle.std.specs.Float.{nan, inf, fin}
use Rattle.std.specs.Float.Ieee.{up, down}
use Rattle.kernels.specs.Exp.{cut_of}

-- the bit pattern of plus infinity
abbrev pub infinite : ℕ
infinite = 0x7ff0_0000_0000_0000

-- the number that a pattern below it stands for, in units of 2^-1074
abbrev pub units : ℕ → ℕ
units b = cond (nat_lt b (2 ^ 52)) b ((2 ^ 52 + b % 2 ^ 52) * 2 ^ (b / 2 ^ 52 - 1))

-- d are the 53 digits of the number that b stands for: it is d·2^(p - 64) units
pub record Digits (b d p : ℕ) : Type 0 where
  pub low : 2 ^ 52 ≤ d
  pub high : d < 2 ^ 53
  pub least : 12 ≤ p
  pub most : p < 2110
  pub same : units b * 2 ^ 64 ≡ d * 2 ^ p

-- x is finite, and at most N / G in size
abbrev pub Within : ℕ → ℕ → Float → Type 0
Within G N nan = ⊥
Within G N (inf s) = ⊥
Within G N (fin s m e) = m * up e * G ≤ N * down e

-- x is a number, and at least N / G in size, as an infinity is
abbrev pub Low : ℕ → ℕ → Float → Type 0
Low G N nan = ⊥
Low G N (inf s) = Unit {0}
Low G N (fin s m e) = N * down e ≤ m * up e * G

-- k is the whole number that exp takes for y, and how large it can be
pub record Cut (y : Float) (k : ℤ) : Type 0 where
  pub is : k ≡ cut_of y
  pub near : mag k ≤ 1078

-- u units are m·2^52·2^(2·(w - 1074))
pub record Scaled (u m w : ℕ) : Type 0 where
  pub low : 2 ^ 52 ≤ m
  pub high : m < 2 ^ 54 - 1
  pub places : w < 2040
  pub same : u * 2 ^ 1074 ≡ m * 2 ^ 52 * 2 ^ w * 2 ^ w
