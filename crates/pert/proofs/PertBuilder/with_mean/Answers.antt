-- The mode that the mean asks for, in the rule's order of operations.
use Rattle.std.proofs.Common.{rules}
use lib.Ieee.{of_bits}
use Rattle.pert.specs.Pert.{mean_made}
use Rattle.pert.proofs.PertBuilder.with_mean.Goals as goal

pub returns : goal.returns
unfolding mean_made of_bits
returns c = search rules
