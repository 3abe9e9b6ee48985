-- The test a > 1 picks the algorithm, as in the rule.
use Rattle.std.proofs.Common.{rules}
use lib.Ieee.{of_bits}
use Rattle.beta.specs.Beta.{sorted_case, sorted_made}
use Rattle.beta.proofs.Beta.sorted.Goals as goal

pub returns-then-a : goal.returns-then-a
unfolding of_bits sorted_made sorted_case
returns-then-a c = search rules

pub returns-else-a : goal.returns-else-a
unfolding of_bits sorted_made sorted_case
returns-else-a c = search rules
