-- A normal number above 0 is taken by its digits, and `ln_edge` takes the rest.
use Rattle.std.proofs.Common.{T, sym, ◌∙◌, subst}
use lib.Ieee.{of_bits}
use Rattle.kernels.proofs.Significands.{ln_of_digits}
use Rattle.kernels.proofs.logarithm.ln.Goals as goal

pub returns-then-b-lt9218868437227405312 : goal.returns-then-b-lt9218868437227405312
unfolding of_bits
returns-then-b-lt9218868437227405312 c =
    c.ln_digits.ensures ∙ ln_of_digits _ _ _ (subst T (sym c.well_formed.0.1) tt) c.if-x.true c.if-b-lt9218868437227405312.true c.split_normal.ensures
