-- digits + 0x3fe0000000000000 is the pattern of digits·2^-52.
use native.Mathlib.Omega.{arith}
use Rattle.kernels.proofs.Patterns.{no_nan}
use Rattle.kernels.proofs.logarithm.ln_digits.Goals as goal

pub float_from_bits-p : goal.float_from_bits-p
float_from_bits-p c = no_nan _ (omega arith)
