-- The search's value is scaled.
use Rattle.draws.proofs.Exits.{handed}
use Rattle.gamma.proofs.Steps.{steps}
use Rattle.gamma.proofs.LargeSearch.{large_drawn}
use Rattle.gamma.proofs.large.GammaLargeShape.sample.Goals as goal

pub returns-in_err-v : goal.returns-in_err-v
returns-in_err-v c =
    rw (handed c.from_residual.ensures) (large_drawn _ _ _ (rw c.in_err-v.was at c.sample_unscaled.ensures))

pub returns : goal.returns
unfolding steps
returns c = large_drawn _ _ _ (rw c.in_ok-v.was at c.sample_unscaled.ensures)
