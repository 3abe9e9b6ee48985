-- Names that open many definitions at once in an `unfolding` line: `sums`, the series of ln and exp and their constants, and no operation on floats;
-- `rules`, all the kernels' rules down to numbers, so that a closed instance is computed.
use Rattle.std.proofs.Common.{ℕ}
use lib.Ieee.{round, add, sub, mul, div, lt, le, of_bits, of_int, to_signed, size, is_nan}
use Rattle.roots.specs.Roots.{floor_root}
use Rattle.kernels.specs.Numbers.{quotient, HI, LO, INV, ROOT}
use Rattle.kernels.specs.Ln.{C, ln_steps, ln_sum_lem, ln_halved, ln_at_lem, ln_of}
use Rattle.kernels.specs.Exp.{D, cut_of, exp_steps, exp_sum_lem, exp_scaled_lem, exp_at_lem, exp_between_lem, exp_case, exp_of}
use Rattle.kernels.specs.Powf.{powf_of}
use Rattle.kernels.specs.Sqrt.{root_placed, root_of, sqrt_of}

unfoldable pub sums : ℕ
unfolding round of_bits quotient HI LO INV ROOT C ln_steps ln_sum_lem D exp_steps exp_sum_lem
sums = 0

unfoldable pub rules : ℕ
unfolding sums add sub mul div lt le of_int to_signed size is_nan ln_halved ln_at_lem ln_of cut_of exp_scaled_lem exp_at_lem exp_between_lem exp_case exp_of powf_of floor_root root_placed root_of sqrt_of
rules = 0
