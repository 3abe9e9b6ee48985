-- The pattern that `pow2` puts together is the one of 2^h: h + 1023 is between 0 and 2047, and stands for itself.
use Rattle.std.proofs.Common.{◌≡◌, ◌*◌, ◌≤◌, not, T, ℤ, pos, ◌+ℤ◌, nat_abs, sym, ap, ◌∙◌, subst, arith, w64, SFits, to_z, of_z}
use lib.Signed.{mag}
use lib.Ieee.{binary64, nan_bits, of_bits}
use mir.ValLaws.{to_z-of_z}
use borrow.Author.Rules.{sfits_of}
use Rattle.kernels.proofs.Integers.{back}
use Rattle.kernels.proofs.Patterns.{no_nan}
use Rattle.kernels.proofs.Powers.{field, field_is, field_in, below, pow2_is}
use Rattle.kernels.proofs.exponential.pow2.Goals as goal

module _ (h : ℤ) (l : mag h ≤ 1000) where
  sum_is : to_z w64 (of_z w64 h) +ℤ pos 1023 ≡ pos (field h)
  sum_is = ap (λ (z : ℤ). z +ℤ pos 1023) (back h (omega arith)) ∙ field_is h l

  sum_fits : SFits w64 (to_z w64 (of_z w64 h) +ℤ pos 1023)
  sum_fits = subst (SFits w64) (sym sum_is) (sfits_of (omega (arith, field_in h l)))

  stored : to_z w64 (of_z w64 (to_z w64 (of_z w64 h) +ℤ pos 1023)) ≡ pos (field h)
  stored = to_z-of_z w64 (to_z w64 (of_z w64 h) +ℤ pos 1023) sum_fits ∙ sum_is

pub float_from_bits-result : goal.float_from_bits-result
float_from_bits-result c =
    let h = c.args.h in
    subst (λ (z : ℤ). T (not (nan_bits binary64 (nat_abs z * 0x10_0000_0000_0000)))) (sym (stored h c.requires)) (no_nan (field h * 0x10_0000_0000_0000) (below (field h) (field_in h c.requires).1))

pub returns : goal.returns
returns c = ap (λ (z : ℤ). of_bits binary64 (nat_abs z * 0x10_0000_0000_0000)) (stored c.args.h c.requires) ∙ pow2_is c.args.h c.requires
