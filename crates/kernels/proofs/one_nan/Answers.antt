-- `one_nan` meets its contract: logic has one NaN.
use lib.Ieee.{of_bits}
use Rattle.kernels.proofs.Tests.{nan_only}
use Rattle.kernels.proofs.one_nan.Goals as goal

pub returns-then-is_nan : goal.returns-then-is_nan
unfolding of_bits
returns-then-is_nan c = nan_only c.args.x (cc)
