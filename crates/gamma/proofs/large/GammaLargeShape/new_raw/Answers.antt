-- The three fields as the rule forms them; `one_nan` gives its argument back.
use mathlib.Core.Path.{◌≡◌}
use lib.Ieee.{Float, div}
use Rattle.kernels.specs.Numbers.{◌⊖◌, ◌⊗◌, ◌⊘◌, quotient, one}
use Rattle.kernels.specs.Sqrt.{sqrt_of}
use Rattle.gamma.specs.Large.{large_made}
use Rattle.gamma.proofs.Steps.{steps}
use Rattle.gamma.proofs.large.GammaLargeShape.new_raw.Goals as goal

made : (shape scale : Float) {s c d f : Float} → d ≡ shape ⊖ quotient 1 3 → s ≡ scale → f ≡ sqrt_of (quotient 9 1 ⊗ d) → c ≡ one ⊘ f → record { scale = s; c = c; d = d } ≡ large_made shape scale
unfolding large_made
made shape scale d s f c = rw (c, f, s, d)

pub returns : goal.returns
unfolding steps div
returns c = made _ _ c.one_nan-d.ensures c.one_nan.ensures c.sqrt.ensures c.one_nan-2.ensures
