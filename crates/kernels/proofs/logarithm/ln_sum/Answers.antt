-- `ln_sum` does what `ln_sum_lem` says, step by step, with each constant by its bits.
use Rattle.std.proofs.Common.{refl}
use Rattle.kernels.proofs.Open.{sums}
use Rattle.kernels.proofs.logarithm.ln_sum.Goals as goal

pub returns : goal.returns
unfolding sums
returns c = refl
