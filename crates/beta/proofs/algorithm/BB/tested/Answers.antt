-- Each step that accepts is a disjunct of the rule, and they are tried in its order.
use Rattle.std.proofs.Common.{rules}
use lib.Ieee.{round, of_bits}
use Rattle.kernels.specs.Numbers.{quotient}
use Rattle.beta.specs.Algorithm.{bb_accepts, bb_tested}
use Rattle.beta.proofs.algorithm.BB.tested.Goals as goal

pub returns-then-s-ln : goal.returns-then-s-ln
unfolding quotient round of_bits bb_accepts bb_tested
returns-then-s-ln c = search rules

pub returns-then-s-t : goal.returns-then-s-t
unfolding quotient round of_bits bb_accepts bb_tested
returns-then-s-t c = search rules

-- the way out that rejects before the one that accepts: a last test that lets too little through is refused here
pub returns : goal.returns
unfolding quotient round of_bits bb_accepts bb_tested
returns c = search rules

pub returns-then-not-r-self : goal.returns-then-not-r-self
unfolding quotient round of_bits bb_accepts bb_tested
returns-then-not-r-self c = search rules
