-- The floats of each list stand in the first cells of an array of 64, and these cells are what the sampler is lent.
use mathlib.Core.Path.{◌∙◌}
use Rattle.sheet_answer.specs.Outcomes.{sheet_outcome}
use Rattle.sheet_answer.proofs.outcome_of.Goals as goal

pub returns : goal.returns
unfolding sheet_outcome
returns c =
    c.sampled.ensures ∙ rw (c.floats-us.ensures, c.floats-ns.ensures, c.floats-es.ensures, c.float_of.ensures, c.float_of-2.ensures)
