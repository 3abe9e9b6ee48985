-- A sample of Beta, scaled and moved; a refusal of it, with the positions as lent.
use Rattle.std.proofs.Common.{rules}
use Rattle.std.proofs.lemmas.Result.{err_from_is_err_and}
use Rattle.pert.specs.Pert.{pert_of}
use Rattle.pert.proofs.Pert.unmended.Goals as goal

pub returns-in_err-b : goal.returns-in_err-b
unfolding pert_of
returns-in_err-b c = search (rules, err_from_is_err_and)

pub returns : goal.returns
unfolding pert_of
returns c = search rules
