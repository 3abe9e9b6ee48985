-- `exp_scaled` scales by 2^h and then by 2^(k - h), both small enough for `pow2`; `k >> 1` is the floor of k / 2.
use Rattle.std.proofs.Common.{◌≡◌, ◌≤◌, ℤ, ◌-ℤ◌, ap, ◌∙◌, arith, w64, to_z, of_z}
use lib.Signed.{mag, shr_z}
use lib.Ieee.{Float, binary64, mul}
use Rattle.kernels.specs.Exp.{exp_scaled_lem, floor_half}
use Rattle.kernels.specs.Numbers.{pow2}
use Rattle.kernels.proofs.Integers.{back, half_is, half_near, rest_near}
use Rattle.kernels.proofs.exponential.exp_scaled.Goals as goal

-- k, h and k - h as the program has them
module _ (k : ℤ) (l : mag k ≤ 1078) where
  k_is : to_z w64 (of_z w64 k) ≡ k
  k_is = back k (omega arith)

  h_is : to_z w64 (of_z w64 (shr_z (to_z w64 (of_z w64 k)) 2)) ≡ floor_half k
  h_is = ap (λ (z : ℤ). to_z w64 (of_z w64 (shr_z z 2))) k_is ∙ ap (λ (z : ℤ). to_z w64 (of_z w64 z)) (half_is k) ∙ back (floor_half k) (omega (arith, half_near k l))

  rest_is : to_z w64 (of_z w64 k) -ℤ to_z w64 (of_z w64 (shr_z (to_z w64 (of_z w64 k)) 2)) ≡ k -ℤ floor_half k
  rest_is = ap (λ (z : ℤ). z -ℤ to_z w64 (of_z w64 (shr_z (to_z w64 (of_z w64 k)) 2))) k_is ∙ ap (λ (z : ℤ). k -ℤ z) h_is

  stored_is : to_z w64 (of_z w64 (to_z w64 (of_z w64 k) -ℤ to_z w64 (of_z w64 (shr_z (to_z w64 (of_z w64 k)) 2)))) ≡ k -ℤ floor_half k
  stored_is = ap (λ (z : ℤ). to_z w64 (of_z w64 z)) rest_is ∙ back (k -ℤ floor_half k) (omega (arith, rest_near k l))

pub returns : goal.returns
unfolding exp_scaled_lem
returns c =
    let a = c.args in
    let l = c.requires in
    ap (λ (y : Float). mul binary64 (mul binary64 a.p y) c.pow2-2.result) (c.pow2.ensures ∙ ap pow2 (h_is a.k l))
    ∙ ap (λ (y : Float). mul binary64 (mul binary64 a.p (pow2 (floor_half a.k))) y) (c.pow2-2.ensures ∙ ap pow2 (stored_is a.k l))
