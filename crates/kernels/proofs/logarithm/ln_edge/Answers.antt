-- The tests leave four kinds of x: plus infinity; finite and above 0, whose digits `ln_digits` takes; a zero; NaN or below 0. Each is a case of `ln_of`.
use Rattle.std.proofs.Common.{T, sym, ap, ◌∙◌, subst}
use lib.Ieee.{of_bits, neg}
use Rattle.kernels.specs.Ln.{ln_of}
use Rattle.kernels.proofs.Patterns.{above_zero, is_infinite}
use Rattle.kernels.proofs.Significands.{ln_of_digits}
use Rattle.kernels.proofs.Tests.{is_zero, is_invalid, ln_zero, ln_invalid}
use Rattle.kernels.proofs.logarithm.ln_edge.Goals as goal

pub returns-then-x : goal.returns-then-x
unfolding of_bits ln_of
returns-then-x c = let e = is_infinite c.args.x c.if-x.true in e ∙ ap ln_of (sym e)

pub split-requires : goal.split-requires
unfolding of_bits
split-requires c = above_zero c.args.x c.well_formed.0.1 c.if-x.false c.if-x-2.true

pub returns-then-x-2 : goal.returns-then-x-2
unfolding of_bits
returns-then-x-2 c =
    let b = above_zero c.args.x c.well_formed.0.1 c.if-x.false c.if-x-2.true in
    c.ln_digits.ensures ∙ ln_of_digits _ _ _ (subst T (sym c.well_formed.0.1) tt) c.if-x-2.true b.1 c.split.ensures

pub returns-then-x-3 : goal.returns-then-x-3
unfolding of_bits neg
returns-then-x-3 c = sym (ln_zero c.args.x (is_zero c.args.x c.if-x-3.true))

pub returns-else-x-3 : goal.returns-else-x-3
unfolding of_bits
returns-else-x-3 c = sym (ln_invalid c.args.x (is_invalid c.args.x c.if-x-2.false c.if-x-3.false))
