-- The three tests are the rule's: alpha above 0, beta above 0, alpha below beta.
use Rattle.std.proofs.Common.{rules}
use lib.Ieee.{of_bits}
use Rattle.beta.specs.Beta.{ordered, made_case, beta_made}
use Rattle.beta.proofs.Beta.new.Goals as goal

pub returns-then-not-alpha : goal.returns-then-not-alpha
unfolding of_bits beta_made made_case
returns-then-not-alpha c = search rules

pub returns-then-not-beta : goal.returns-then-not-beta
unfolding of_bits beta_made made_case
returns-then-not-beta c = search rules

pub returns-then-alpha-beta : goal.returns-then-alpha-beta
unfolding of_bits beta_made made_case ordered
returns-then-alpha-beta c = search rules

pub returns-else-alpha-beta : goal.returns-else-alpha-beta
unfolding of_bits beta_made made_case ordered
returns-else-alpha-beta c = search rules
