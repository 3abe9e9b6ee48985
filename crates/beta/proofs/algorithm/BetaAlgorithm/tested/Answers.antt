-- The tests are those of the algorithm at hand.
use Rattle.std.proofs.Common.{rules}
use Rattle.beta.specs.Algorithm.{bb_tested, bc_tested}
use Rattle.beta.proofs.algorithm.BetaAlgorithm.tested.Goals as goal

pub returns-in-BB : goal.returns-in-BB
unfolding bb_tested bc_tested
returns-in-BB c = search rules

pub returns-in-BC : goal.returns-in-BC
unfolding bb_tested bc_tested
returns-in-BC c = search rules
