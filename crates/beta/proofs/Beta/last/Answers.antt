-- Both algorithms keep b, and the switch and the test of w pick the quotient, as in the rule.
use Rattle.std.proofs.Common.{rules}
use lib.Ieee.{of_bits, div}
use Rattle.beta.specs.Beta.{final_case, final_of}
use Rattle.beta.proofs.Beta.last.Goals as goal

pub returns-then-w : goal.returns-then-w
unfolding of_bits div final_of final_case
returns-then-w c = search rules

pub returns-else-w : goal.returns-else-w
unfolding of_bits div final_of final_case
returns-else-w c = search rules

pub returns-else-not-self : goal.returns-else-not-self
unfolding of_bits div final_of final_case
returns-else-not-self c = search rules
