-- x is at most 746 in size and INV below 1077 / 746, so x·INV is at most 1077 and `cut` takes it.
use Rattle.std.proofs.Common.{ap, ◌∙◌, arith, lit≤}
use lib.Ieee.{of_bits}
use Rattle.kernels.specs.Numbers.{INV}
use Rattle.kernels.specs.Exp.{exp_between_lem, exp_at_lem}
use Rattle.kernels.proofs.Integers.{back}
use Rattle.kernels.proofs.Bounds.{mul_within}
use Rattle.kernels.proofs.exponential.exp_between.Goals as goal

pub cut-requires : goal.cut-requires
unfolding of_bits INV
cut-requires c = mul_within 0 746 c.args.x 51 0xb8a_a3b2_95c1_7f INV 0 1077 c.requires (lit≤ tt) (lit≤ tt) (lit≤ tt) (lit≤ tt)

pub returns : goal.returns
unfolding exp_between_lem INV
returns c =
    let k = c.cut.ensures in
    c.exp_at.ensures ∙ ap (exp_at_lem c.args.x) (back c.cut.result (omega (arith, k.near)) ∙ k.is)
