-- Each early return is a case of `exp_of`; what is left is no NaN and lies between the limits, both at most 746 in size.
use Rattle.std.proofs.Common.{true, false, refl, ◌∙◌, lit≤}
use lib.Ieee.{of_bits, neg, le}
use Rattle.kernels.specs.Exp.{exp_case, UPPER, LOWER}
use Rattle.kernels.proofs.Bounds.{between}
use Rattle.kernels.proofs.Tests.{exp_by_tests}
use Rattle.kernels.proofs.exponential.exp.Goals as goal

pub returns-then-is_nan : goal.returns-then-is_nan
unfolding exp_case of_bits
returns-then-is_nan c = let x = c.args.x in exp_by_tests x true (le UPPER x) (le x LOWER) (cc) refl refl

pub returns-then-x : goal.returns-then-x
unfolding exp_case of_bits
returns-then-x c = let x = c.args.x in exp_by_tests x false true (le x LOWER) (cc) c.if-x.true refl

pub returns-then-x-2 : goal.returns-then-x-2
unfolding exp_case of_bits neg
returns-then-x-2 c =
    let x = c.args.x in
    exp_by_tests x false false true (cc) c.if-x.false c.if-x-2.true

pub exp_between-requires : goal.exp_between-requires
unfolding of_bits neg
exp_between-requires c = between LOWER c.args.x UPPER 1 746 (lit≤ tt) (lit≤ tt) (cc) c.if-x-2.false c.if-x.false

pub returns : goal.returns
unfolding exp_case of_bits neg
returns c =
    let x = c.args.x in
    c.exp_between.ensures ∙ exp_by_tests x false false false (cc) c.if-x.false c.if-x-2.false
