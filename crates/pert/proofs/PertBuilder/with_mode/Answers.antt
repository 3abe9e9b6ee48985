-- Range, mode and shape are tested in the rule's order; past the three, Beta of the rule's v and w settles the answer.
use Rattle.std.proofs.Common.{rules}
use Rattle.std.proofs.lemmas.Result.{err_from_is_err_and}
use lib.Ieee.{of_bits}
use Rattle.pert.specs.Pert.{mode_made}
use Rattle.pert.proofs.PertBuilder.with_mode.Goals as goal

pub returns-then-not-max-min : goal.returns-then-not-max-min
unfolding mode_made
returns-then-not-max-min c = search rules

pub returns-then-not-max-mode : goal.returns-then-not-max-mode
unfolding mode_made
returns-then-not-max-mode c = search rules

pub returns-then-not-shape : goal.returns-then-not-shape
unfolding mode_made of_bits
returns-then-not-shape c = search rules

-- what is made before what Beta refuses: its parameters the other way round are refused here
pub returns : goal.returns
unfolding mode_made of_bits
returns c = search rules

pub returns-in_err-beta : goal.returns-in_err-beta
unfolding mode_made of_bits
returns-in_err-beta c = search (rules, err_from_is_err_and)
