-- The fields are the arguments, and 4.0 is the rule's 4.
use Rattle.std.proofs.Common.{rules}
use lib.Ieee.{of_bits, round}
use Rattle.kernels.specs.Numbers.{quotient}
use Rattle.pert.specs.Pert.{builder}
use Rattle.pert.proofs.Pert.new.Goals as goal

pub returns : goal.returns
unfolding builder quotient round of_bits
returns c = search rules
