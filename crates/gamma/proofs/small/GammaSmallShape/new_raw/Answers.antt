-- 1/shape, and Large of shape + 1; `round` and `of_bits` are opened for the code's literal 1.
use lib.Ieee.{round, of_bits}
use Rattle.gamma.specs.Small.{small_made}
use Rattle.gamma.proofs.small.GammaSmallShape.new_raw.Goals as goal

pub returns : goal.returns
unfolding round of_bits small_made
returns c = rw (c.one_nan.ensures, c.new_raw.ensures)
