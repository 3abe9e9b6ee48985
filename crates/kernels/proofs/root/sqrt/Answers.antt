-- `sqrt` meets its contract: the pattern that it puts together stands for the rounded root in its place, which `is_root`, and there is no other
-- (`root_is_sqrt`). What its tests sort out before that is what the rule answers at once.
use Rattle.std.proofs.Common.{◌≡◌, ℕ, ◌+◌, ◌-◌, ◌*◌, ◌/◌, ◌%◌, ◌^◌, ◌<◌, ◌≤◌, false, T, sym, ap, ◌∙◌, subst, arith}
use lib.Ieee.{binary64, of_bits, to_bits}
use lib.Ieee.Bits.{of_bits-fits}
use lib.Ieee.Exact.{HasValue}
use Rattle.kernels.specs.Inner.{infinite, units}
use Rattle.roots.specs.Roots.{Significand, rounded_root_lem}
use Rattle.roots.proofs.Roots.{rounded_significand}
use Rattle.kernels.specs.Sqrt.{sqrt_of}
use Rattle.kernels.proofs.Patterns.{value, value_of, units_normal, no_nan, pattern_pos, infinite_pattern}
use Rattle.kernels.proofs.Tests.{is_zero, is_invalid, sqrt_zero, sqrt_invalid}
use Rattle.kernels.proofs.Scaling.{scaled}
use Rattle.kernels.proofs.Nearness.{is_root}
use Rattle.kernels.proofs.SqrtLaws.{root_is_sqrt}
use Rattle.kernels.proofs.root.sqrt.Goals as goal

-- the pattern, as the code writes it
abbrev pattern : ℕ → ℕ → ℕ
pattern w R = w * 2 ^ 52 % 2 ^ 64 + R

module _ (w R : ℕ) (h : w < 2040) (l : 2 ^ 52 ≤ R) (k : R < 2 ^ 53) where
  finite : pattern w R < infinite
  finite = omega arith

  normal : 2 ^ 52 ≤ pattern w R
  normal = omega arith

  digits : 2 ^ 52 + pattern w R % 2 ^ 52 ≡ R
  digits = omega arith

  field : pattern w R / 2 ^ 52 - 1 ≡ w
  field = omega arith

  valued : HasValue (of_bits binary64 (pattern w R)) false (R * 2 ^ w) (2 ^ 1074)
  valued = rw (units_normal (pattern w R) normal, digits, field) at (value (pattern w R) finite)

rooted : {n r : ℕ} → r ≡ rounded_root_lem n → 2 ^ 52 ≤ n → n < 2 ^ 54 - 1 → Significand n r
rooted {n} e l h = subst (Significand n) (sym e) (rounded_significand n l h)

pub split-requires : goal.split-requires
unfolding of_bits
split-requires c = (pattern_pos c.args.x (subst T (sym c.well_formed.0.1) tt) c.if-x.true, c.if-b-lt9218868437227405312.true)

pub overflow_add-result : goal.overflow_add-result
overflow_add-result c = let s = c.even-s.result in omega (arith, rooted c.rounded_root-r.ensures s.low s.high)

pub float_from_bits-result : goal.float_from_bits-result
float_from_bits-result c =
    let s = c.even-s.result in
    let r = rooted c.rounded_root-r.ensures s.low s.high in
    no_nan _ (finite s.place _ s.most r.low r.high)

pub returns-then-b-lt9218868437227405312 : goal.returns-then-b-lt9218868437227405312
returns-then-b-lt9218868437227405312 c =
    let x = c.args.x in
    let t = subst T (sym c.well_formed.0.1) tt in
    let s = c.even-s.result in
    let r = rooted c.rounded_root-r.ensures s.low s.high in
    root_is_sqrt x _ t
    (is_root x _ (units (to_bits binary64 x)) _ _ _ (of_bits-fits binary64 (pattern s.place c.rounded_root-r.result)) (value_of x t c.if-b-lt9218868437227405312.true)
    (valued s.place _ s.most r.low r.high)
    (scaled _ _ _ _ _ c.split.ensures s.low s.high s.most c.even-s.ensures) r)

pub returns-else-b-lt9218868437227405312 : goal.returns-else-b-lt9218868437227405312
unfolding of_bits sqrt_of
returns-else-b-lt9218868437227405312 c =
    let e = infinite_pattern c.args.x (subst T (sym c.well_formed.0.1) tt) c.if-x.true c.if-b-lt9218868437227405312.false in
    e ∙ sym (ap sqrt_of e)

pub returns-then-x-2 : goal.returns-then-x-2
unfolding of_bits
returns-then-x-2 c = let x = c.args.x in sym (sqrt_zero x (is_zero x c.if-x-2.true))

pub returns-else-x-2 : goal.returns-else-x-2
unfolding of_bits
returns-else-x-2 c = let x = c.args.x in sym (sqrt_invalid x (is_invalid x c.if-x.false c.if-x-2.false))
