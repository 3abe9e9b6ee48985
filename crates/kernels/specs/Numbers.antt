-- The numbers that document 01's section Kernels names, and its operations: each is binary64's and rounds once. Definitions only.
use Rattle.std.specs.Prelude.{ℕ, Bool, true, false, not, ℤ, pos, negsuc, from_bits, Float}
use Rattle.std.specs.Float.{nan, inf, fin, binary64}
use Rattle.std.specs.Float.Ieee.{round, add, sub, mul, div}

infixl 6 ◌⊕◌ ◌⊖◌
infixl 7 ◌⊗◌ ◌⊘◌
abbrev pub ◌⊕◌ : Float → Float → Float
x ⊕ y = add binary64 x y

abbrev pub ◌⊖◌ : Float → Float → Float
x ⊖ y = sub binary64 x y

abbrev pub ◌⊗◌ : Float → Float → Float
x ⊗ y = mul binary64 x y

abbrev pub ◌⊘◌ : Float → Float → Float
x ⊘ y = div binary64 x y

-- n / d, rounded once
unfoldable pub quotient : ℕ → ℕ → Float
quotient n d = round binary64 false n d

-- 2 ^ z
abbrev pub pow2 : ℤ → Float
pow2 z = fin false 1 z

-- +0, 1, 2 and 1/2
abbrev pub nought : Float
nought = fin false 0 (pos 0)

abbrev pub one : Float
one = pow2 (pos 0)

abbrev pub two : Float
two = pow2 (pos 1)

abbrev pub half : Float
half = pow2 (negsuc 0)

-- neither NaN nor an infinity
abbrev pub finite : Float → Bool
finite nan = false
finite (inf s) = false
finite (fin s m e) = true

-- a number with its sign clear: +0, what is above it, and plus infinity
abbrev pub clear : Float → Bool
clear nan = false
clear (inf s) = not s
clear (fin s m e) = not s

-- 'HI = 3fe62e42fee00000, LO = 3dea39ef35793c76, INV = 3ff71547652b82fe, ROOT = 3ff6a09e667f3bcd (bits).'
unfoldable pub HI : Float
HI = from_bits binary64 0x3fe6_2e42_fee0_0000

unfoldable pub LO : Float
LO = from_bits binary64 0x3dea_39ef_3579_3c76

unfoldable pub INV : Float
INV = from_bits binary64 0x3ff7_1547_652b_82fe

unfoldable pub ROOT : Float
ROOT = from_bits binary64 0x3ff6_a09e_667f_3bcd
