-- `split_subnormal` meets its contract by `digits_subnormal`: the shift is small enough that no digit is lost.
use Rattle.std.proofs.Common.{lt_of_lt_of_le, mod-eq_of_lt, arith, lit≤}
use Rattle.kernels.proofs.Shift.{shifted, digits_subnormal}
use Rattle.kernels.proofs.split_subnormal.Goals as goal

pub overflow_sub-z : goal.overflow_sub-z
overflow_sub-z c = (shifted c.args.b c.requires.0 c.requires.1).enough

pub invariant_of-result : goal.invariant_of-result
invariant_of-result c =
    let s = shifted c.args.b c.requires.0 c.requires.1 in
    record { low = omega (arith, s.low, s.high); high = omega (arith, s.high); most = omega arith }

pub returns : goal.returns
returns c = rw (mod-eq_of_lt (lt_of_lt_of_le (shifted c.args.b c.requires.0 c.requires.1).high (lit≤ tt))) (digits_subnormal c.args.b c.requires.0 c.requires.1)
