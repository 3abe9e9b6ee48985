-- y is at most 1077 in size, so y + 0.5 and y - 0.5 are at most 1078: the cast to a whole number is defined, and the number small.
use Rattle.std.proofs.Common.{◌≡◌, ◌≤◌, Bool, cond, ℤ, sym, ap, ◌∙◌, subst, arith, lit≤, w64, to_z, of_z}
use lib.Signed.{mag}
use lib.Ieee.{Float, to_signed, of_bits}
use Rattle.kernels.specs.Numbers.{◌⊕◌, ◌⊖◌, half}
use Rattle.kernels.specs.Exp.{cut_of}
use Rattle.kernels.specs.Inner.{Within, Cut}
use Rattle.kernels.proofs.Integers.{back}
use Rattle.kernels.proofs.Bounds.{add_within, sub_within, cut_near, cut_above, cut_below}
use Rattle.kernels.proofs.exponential.cut.Goals as goal

up_within : (y : Float) → Within 1 1077 y → Within 1 1078 (y ⊕ half)
up_within y w = add_within 0 1077 y 1 half 1078 w (lit≤ tt) (lit≤ tt) (lit≤ tt) (lit≤ tt)

down_within : (y : Float) → Within 1 1077 y → Within 1 1078 (y ⊖ half)
down_within y w = sub_within 0 1077 y 1 half 1078 w (lit≤ tt) (lit≤ tt) (lit≤ tt) (lit≤ tt)

-- the number that the cast gives, as the program hands it on
cut_made : (y v : Float) (r : ℤ) → Within 1 1078 v → r ≡ to_signed 63 v → to_signed 63 v ≡ cut_of y → Cut y (to_z w64 (of_z w64 r))
cut_made y v r w e f =
    let l : mag r ≤ 1078 = subst (λ (z : ℤ). mag z ≤ 1078) (sym e) (cut_near v 1078 w) in
    let b : to_z w64 (of_z w64 r) ≡ r = back r (omega arith) in
    record { is = b ∙ e ∙ f; near = subst (λ (z : ℤ). mag z ≤ 1078) (sym b) l }

pub truncating_f64_to_i64-requires : goal.truncating_f64_to_i64-requires
unfolding of_bits
truncating_f64_to_i64-requires c =
    let y = c.args.y in
    let w = up_within y c.requires in
    record { lower_bound = cut_above (y ⊕ half) 1078 (omega arith) w; upper_bound = cut_below (y ⊕ half) 1078 (omega arith) w }

pub truncating_f64_to_i64-requires-else-y : goal.truncating_f64_to_i64-requires-else-y
unfolding of_bits
truncating_f64_to_i64-requires-else-y c =
    let y = c.args.y in
    let w = down_within y c.requires in
    record { lower_bound = cut_above (y ⊖ half) 1078 (omega arith) w; upper_bound = cut_below (y ⊖ half) 1078 (omega arith) w }

pub returns-then-y : goal.returns-then-y
unfolding of_bits cut_of
returns-then-y c =
    let y = c.args.y in
    cut_made y (y ⊕ half) c.truncating_f64_to_i64.result (up_within y c.requires) c.truncating_f64_to_i64.ensures
    (sym (ap (λ (t : Bool). to_signed 63 (cond t (y ⊕ half) (y ⊖ half))) c.if-y.true))

pub returns-else-y : goal.returns-else-y
unfolding of_bits cut_of
returns-else-y c =
    let y = c.args.y in
    cut_made y (y ⊖ half) c.truncating_f64_to_i64-else-y.result (down_within y c.requires) c.truncating_f64_to_i64-else-y.ensures
    (sym (ap (λ (t : Bool). to_signed 63 (cond t (y ⊕ half) (y ⊖ half))) c.if-y.false))
