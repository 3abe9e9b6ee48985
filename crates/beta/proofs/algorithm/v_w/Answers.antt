-- v and w are the rule's.
use Rattle.std.proofs.Common.{rules}
use lib.Ieee.{round, of_bits}
use Rattle.kernels.specs.Numbers.{quotient}
use Rattle.beta.specs.Algorithm.{beta_v, beta_w}
use Rattle.beta.proofs.algorithm.v_w.Goals as goal

pub returns : goal.returns
unfolding quotient round of_bits beta_v beta_w
returns c = search rules
