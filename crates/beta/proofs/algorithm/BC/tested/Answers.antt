-- Each way through the steps is one of the rule's; step 5 is asked of the z that the way has.
use Rattle.std.proofs.Common.{rules}
use lib.Ieee.{round, of_bits}
use Rattle.kernels.specs.Numbers.{quotient}
use Rattle.beta.specs.Algorithm.{bc_accepts, bc_tested, step5_of}
use Rattle.beta.proofs.algorithm.BC.tested.Goals as goal

pub returns-then-u2-z : goal.returns-then-u2-z
unfolding quotient round of_bits bc_accepts bc_tested step5_of
returns-then-u2-z c = search rules

pub returns-then-u1 : goal.returns-then-u1
unfolding quotient round of_bits bc_accepts bc_tested step5_of
returns-then-u1 c = search rules

-- past step 3 before step 3: a step 3 that lets too little through is refused here
pub returns-then-z-self : goal.returns-then-z-self
unfolding quotient round of_bits bc_accepts bc_tested step5_of
returns-then-z-self c = search rules

pub returns-then-z : goal.returns-then-z
unfolding quotient round of_bits bc_accepts bc_tested
returns-then-z c = search rules

pub returns : goal.returns
unfolding quotient round of_bits bc_accepts bc_tested step5_of
returns c = search rules
