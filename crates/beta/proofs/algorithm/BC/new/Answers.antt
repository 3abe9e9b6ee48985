-- The six fields are the rule's, each NaN made the one NaN, which changes no value; the constants are computed.
use Rattle.std.proofs.Common.{rules}
use lib.Ieee.{round, of_bits, div}
use Rattle.kernels.specs.Numbers.{quotient}
use Rattle.beta.specs.Algorithm.{bc_made}
use Rattle.beta.proofs.algorithm.BC.new.Goals as goal

pub returns : goal.returns
unfolding quotient round of_bits div bc_made
returns c = search rules
