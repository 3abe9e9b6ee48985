-- The test of step 5 is the rule's.
use Rattle.std.proofs.Common.{rules}
use lib.Ieee.{round, of_bits}
use Rattle.kernels.specs.Numbers.{quotient}
use Rattle.beta.specs.Algorithm.{step5_accepts, step5_of}
use Rattle.beta.proofs.algorithm.BC.step5.Goals as goal

-- the way out that rejects before the one that accepts: a test that lets too little through is refused here
pub returns : goal.returns
unfolding quotient round of_bits step5_accepts step5_of
returns c = search rules

pub returns-then-not-self-ln : goal.returns-then-not-self-ln
unfolding quotient round of_bits step5_accepts step5_of
returns-then-not-self-ln c = search rules
