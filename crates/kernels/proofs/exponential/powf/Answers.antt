-- `powf` is the two calls that `powf_of` names.
use Rattle.std.proofs.Common.{ap, ◌∙◌}
use lib.Ieee.{Float}
use Rattle.kernels.specs.Numbers.{◌⊗◌}
use Rattle.kernels.specs.Exp.{exp_of}
use Rattle.kernels.specs.Powf.{powf_of}
use Rattle.kernels.proofs.exponential.powf.Goals as goal

pub returns : goal.returns
unfolding powf_of
returns c = c.exp.ensures ∙ ap (λ (l : Float). exp_of (c.args.y ⊗ l)) c.ln.ensures
