-- The five fields are the rule's, each NaN made the one NaN, which changes no value.
use Rattle.std.proofs.Common.{rules}
use lib.Ieee.{round, of_bits}
use Rattle.kernels.specs.Numbers.{quotient}
use Rattle.beta.specs.Algorithm.{bb_made}
use Rattle.beta.proofs.algorithm.BB.new.Goals as goal

pub returns : goal.returns
unfolding quotient round of_bits bb_made
returns c = search rules
