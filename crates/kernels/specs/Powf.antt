-- Document 01, Kernels, powf. Definitions only.
use Rattle.std.specs.Prelude.{Float}
use Rattle.kernels.specs.Numbers.{◌⊗◌}
use Rattle.kernels.specs.Ln.{ln_of}
use Rattle.kernels.specs.Exp.{exp_of}

-- 'powf(u, y), for any u and y: exp of the rounded product y·ln u'
unfoldable pub powf_of : Float → Float → Float
powf_of u y = exp_of (y ⊗ ln_of u)
