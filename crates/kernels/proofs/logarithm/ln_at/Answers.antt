-- e is at most 4096 in size, so it and e + 1 become floats through 32 bits with nothing lost; the branch is the rule's test.
use Rattle.std.proofs.Common.{◌≡◌, ◌≤◌, Bool, ℤ, pos, ◌+ℤ◌, sym, ap, ◌∙◌, arith, w32, w64, to_z, of_z}
use lib.Signed.{mag}
use lib.Ieee.{binary64, of_int, of_bits}
use Rattle.kernels.specs.Numbers.{◌⊗◌, half, ROOT}
use Rattle.kernels.specs.Ln.{ln_at_lem, ln_halved, ln_sum_lem}
use Rattle.kernels.proofs.Integers.{back, narrow_back, next_near}
use Rattle.kernels.proofs.logarithm.ln_at.Goals as goal

-- e + 1 as the program has it
module _ (e : ℤ) (l : mag e ≤ 4096) where
  next_is : to_z w64 (of_z w64 e) +ℤ pos 1 ≡ e +ℤ pos 1
  next_is = ap (λ (z : ℤ). z +ℤ pos 1) (back e (omega arith))

  next_small : mag (e +ℤ pos 1) ≤ 5000
  next_small = omega (arith, next_near e)

pub returns-then-m : goal.returns-then-m
unfolding ln_at_lem ln_halved ROOT of_bits
returns-then-m c =
    let a = c.args in
    let p = c.requires in
    c.ln_sum.ensures
    ∙ ap (λ (z : ℤ). ln_sum_lem (a.m ⊗ half) (of_int binary64 z)) (ap (λ (z : ℤ). to_z w32 (of_z w32 (to_z w64 (of_z w64 z)))) (next_is a.e p) ∙ narrow_back (a.e +ℤ pos 1) (next_small a.e p))
    ∙ sym (ap (λ (t : Bool). ln_halved t a.m a.e) c.if-m.true)

pub returns-else-m : goal.returns-else-m
unfolding ln_at_lem ln_halved ROOT of_bits
returns-else-m c =
    let a = c.args in
    c.ln_sum-else-m.ensures
    ∙ ap (λ (z : ℤ). ln_sum_lem a.m (of_int binary64 z)) (narrow_back a.e (omega (arith, c.requires)))
    ∙ sym (ap (λ (t : Bool). ln_halved t a.m a.e) c.if-m.false)
