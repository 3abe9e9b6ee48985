-- `exp_at` hands k on as a float and as itself: k is small, so both casts keep it.
use Rattle.std.proofs.Common.{◌≤◌, ℤ, ap, ◌∙◌, arith}
use lib.Signed.{mag}
use lib.Ieee.{Float, binary64, of_int}
use Rattle.kernels.specs.Exp.{exp_at_lem, exp_scaled_lem, exp_sum_lem}
use Rattle.kernels.proofs.Integers.{back, narrow_back}
use Rattle.kernels.proofs.exponential.exp_at.Goals as goal

pub returns : goal.returns
unfolding exp_at_lem
returns c =
    let a = c.args in
    let l : mag a.k ≤ 5000 = omega (arith, c.requires) in
    c.exp_scaled.ensures
    ∙ ap (λ (z : ℤ). exp_scaled_lem c.exp_sum.result z) (back a.k l)
    ∙ ap (λ (y : Float). exp_scaled_lem y a.k) (c.exp_sum.ensures ∙ ap (λ (z : ℤ). exp_sum_lem a.x (of_int binary64 z)) (narrow_back a.k l))
