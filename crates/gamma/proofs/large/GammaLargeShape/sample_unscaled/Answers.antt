-- The loop goes from trial to trial: it stands at the start of one, each earlier one having been rejected. Its measure is the normals left.
use mathlib.Core.Path.{sym, ◌∙◌}
use Rattle.draws.proofs.Exits.{handed}
use Rattle.draws.specs.declared.Kind.TheVariants.{Normal}
use Rattle.draws.proofs.Walks.{told, starts, fewer, goes, gives_sample, gives_refusal}
use Rattle.gamma.proofs.Trials.{walk, moves}
use Rattle.gamma.proofs.large.GammaLargeShape.sample_unscaled.Goals as goal

pub loop-v-init : goal.loop-v-init
loop-v-init c = starts (walk _ _ _)

pub returns-in_err-v : goal.returns-in_err-v
returns-in_err-v c =
    rw (handed c.from_residual.ensures) (sym (gives_refusal (walk _ _ _) c.loop-v.invariant (sym c.trial.ensures ∙ c.in_err-v.was)))

pub returns-in-Some-default : goal.returns-in-Some-default
returns-in-Some-default c =
    sym (gives_sample (walk _ _ _) c.loop-v.invariant (told c.trial.ensures c.in_ok-v.was c.in-Some-default.is-0))

pub loop-v-smaller : goal.loop-v-smaller
loop-v-smaller c =
    fewer (walk _ _ _) c.loop-v.invariant (told c.trial.ensures c.in_ok-v.was c.in-None-default.is-0) Normal (moves _ _ _)

pub loop-v-preserved : goal.loop-v-preserved
loop-v-preserved c =
    goes (walk _ _ _) c.loop-v.invariant (told c.trial.ensures c.in_ok-v.was c.in-None-default.is-0)
