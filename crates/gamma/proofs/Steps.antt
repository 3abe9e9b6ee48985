-- One name for an `unfolding` line: it opens the rules' formulas and literals, and no operation on floats, so that code which takes the steps
-- of a formula is that formula.
use Prim.Native.Nat.{ℕ}
use lib.Ieee.{round, of_bits}
use Rattle.kernels.specs.Numbers.{quotient}
use Rattle.gamma.specs.Large.{large_made, large_w, drops, large_v, squeezes, log_accepts, large_value}

unfoldable pub steps : ℕ
unfolding round of_bits quotient large_made large_w drops large_v squeezes log_accepts large_value
steps = 0
