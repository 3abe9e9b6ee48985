-- The loop meets the trials in their order, so that it ends as the search does. The measure is the uniforms left.
use mathlib.Core.Path.{sym, ◌∙◌}
use Rattle.draws.proofs.Exits.{handed}
use Rattle.std.proofs.Common.{rules}
use Rattle.draws.specs.declared.Kind.TheVariants.{Uniform}
use Rattle.draws.proofs.Walks.{told, fewer, goes, gives_sample, gives_refusal}
use Rattle.beta.specs.Beta.{beta_of}
use Rattle.beta.proofs.Trials.{walk, moves}
use Rattle.beta.proofs.Beta.unmended.Goals as goal

pub returns-then-not-placed : goal.returns-then-not-placed
unfolding beta_of
returns-then-not-placed c = search rules

pub returns-in_err-v : goal.returns-in_err-v
unfolding beta_of
returns-in_err-v c =
    rw (handed c.from_residual.ensures, ← c.placed.ensures, c.if-not-placed.false) (sym (gives_refusal (walk _ _ _) c.loop-v.invariant (sym c.trial.ensures ∙ c.in_err-v.was)))

pub returns-in-Some-default : goal.returns-in-Some-default
unfolding beta_of
returns-in-Some-default c =
    rw (← c.placed.ensures, c.if-not-placed.false)
    (sym (gives_sample (walk _ _ _) c.loop-v.invariant (told c.trial.ensures c.in_ok-v.was c.in-Some-default.is-0)))

pub loop-v-smaller : goal.loop-v-smaller
loop-v-smaller c = fewer (walk _ _ _) c.loop-v.invariant (told c.trial.ensures c.in_ok-v.was c.in-None-default.is-0) Uniform (moves _ _ _)

pub loop-v-preserved : goal.loop-v-preserved
loop-v-preserved c = goes (walk _ _ _) c.loop-v.invariant (told c.trial.ensures c.in_ok-v.was c.in-None-default.is-0)
