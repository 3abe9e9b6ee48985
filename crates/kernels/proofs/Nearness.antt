-- Where x is m * 2 ^ 52 * 2 ^ (2 * w) units times the unit, 2 ^ -1074, and R is the whole number nearest to the root of m * 2 ^ 52, R * 2 ^ w units
-- are nearer to √x than any other value of binary64 is: in units each is a number of at most 53 digits times a power of two, of which `Middles` speaks.
use Rattle.std.proofs.Common.{◌≡◌, ℕ, suc, ◌+◌, ◌-◌, ◌*◌, ◌/◌, ◌%◌, ◌^◌, ◌<◌, ◌≤◌, false, T, ap, lt_of_lt_of_le, mul-le-mul_right, mul_assoc, mul_comm, add-mul, lt_of_mul-lt-mul_right, mul-lt-mul_of_pos_right, mul-pos, lt_of_not-le, mul-one, not-le_of_lt, mul_left_comm, arith, lit<, ltb→lt, pow_pos}
use native.Mathlib.Decide.{dec_le}
use lib.Ieee.{Float, fin, binary64, up, down, fits, lt, to_bits}
use lib.Ieee.Exact.{HasValue}
use lib.Ieee.Order.{transfer}
use lib.Ieee.Positive.{num, den, den_pos, positive, value→cross, positive_of_value}
use Rattle.roots.specs.Roots.{Significand}
use Rattle.kernels.specs.Inner.{units, Scaled}
use Rattle.kernels.specs.SquareRoot.{Nearest, SquareRoot, unsigned, square, root_below_middle, middle_below_root}
use Rattle.kernels.proofs.Patterns.{units_normal, units_subnormal, value_of, finite_pattern}
use Rattle.kernels.proofs.Scaling.{scaled_pos}
use Rattle.kernels.proofs.Middles.{Coarse, coarse, root_below, root_above}

-- ---- from units of 1 / D to fractions
module _ (x r y : Float) (D X R Y : ℕ) (hx : HasValue x false X D) (hr : HasValue r false R D) (hy : HasValue y false Y D) where
  sum_is : (num r * den y + num y * den r) * D ≡ (R + Y) * (den r * den y)
  sum_is =
      simp (add-mul, mul_assoc, mul_comm, mul_left_comm)
      (omega (arith, simp (mul_assoc, mul_comm) at (ap (λ (z : ℕ). z * den y) (value→cross r R D hr)), simp (mul_assoc, mul_comm) at (ap (λ (z : ℕ). z * den r) (value→cross y Y D hy))))

  root_is : (P : ℕ) → 4 * num x * square P * (D * D) ≡ 4 * (X * D) * (den x * square P)
  root_is P = simp (mul_assoc, mul_comm, mul_left_comm) (simp (mul_assoc, mul_comm, mul_left_comm) at (ap (λ (z : ℕ). 4 * z * (D * (P * P))) (value→cross x X D hx)))

  middle_is : (S Z P : ℕ) → S * D ≡ Z * P → square S * den x * (D * D) ≡ square Z * (den x * square P)
  middle_is S Z P e = simp (mul_assoc, mul_comm, mul_left_comm) (simp (mul_assoc, mul_comm, mul_left_comm) at (ap (λ (z : ℕ). z * z * den x) e))

  weight_pos : 0 < den x * square (den r * den y)
  weight_pos = let p = mul-pos (den_pos r) (den_pos y) in mul-pos (den_pos x) (mul-pos p p)

  below_middle : 4 * (X * D) < square (R + Y) → root_below_middle x r y
  below_middle h = lt_of_mul-lt-mul_right (D * D) (rw (root_is (den r * den y), middle_is _ _ _ sum_is) (mul-lt-mul_of_pos_right h weight_pos))

  above_middle : square (R + Y) < 4 * (X * D) → middle_below_root x r y
  above_middle h = lt_of_mul-lt-mul_right (D * D) (rw (root_is (den r * den y), middle_is _ _ _ sum_is) (mul-lt-mul_of_pos_right h weight_pos))

-- ---- a value in units
in_units : (y : Float) → T (fits binary64 y) → T (unsigned y) → HasValue y false (units (to_bits binary64 y)) (2 ^ 1074)
in_units lib.Ieee.nan f v = elim v [ ]
in_units (lib.Ieee.inf _) f v = elim v [ ]
in_units (fin mathlib.Core.Bool.true m e) f v = elim v [ ]
in_units (fin false m e) f v = value_of (fin false m e) f (finite_pattern m e f)

coarse_units : (b w : ℕ) → Coarse (units b) (2 ^ w)
coarse_units b w = go (dec_le (2 ^ 52) b)
  where
    go : Dec (2 ^ 52 ≤ b) → Coarse (units b) (2 ^ w)
    go (yes h) = rw (units_normal b h) (coarse (2 ^ 52 + b % 2 ^ 52) (b / 2 ^ 52 - 1) w (omega arith))
    go (no f) = let h = lt_of_not-le f in rw (units_subnormal b h) (rw mul-one at (coarse b 0 w (omega arith)))

lt_cross : (x y : Float) → T (unsigned x) → T (unsigned y) → T (lt x y) → num x * den y < num y * den x
unfolding lt
lt_cross lib.Ieee.nan y p q t = elim p [ ]
lt_cross (lib.Ieee.inf _) y p q t = elim p [ ]
lt_cross (fin false m e) lib.Ieee.nan p q t = elim q [ ]
lt_cross (fin false m e) (lib.Ieee.inf _) p q t = elim q [ ]
lt_cross (fin false m e) (fin mathlib.Core.Bool.true n d) p q t = elim q [ ]
lt_cross (fin mathlib.Core.Bool.true m e) y p q t = elim p [ ]
lt_cross (fin false m e) (fin false n d) p q t = ltb→lt (m * up e * down d) (n * up d * down e) t

lt_units : (x y : Float) (a b : ℕ) → T (unsigned x) → T (unsigned y) → HasValue x false a (2 ^ 1074) → HasValue y false b (2 ^ 1074) → T (lt x y) → a < b
lt_units x y a b p q hx hy t =
    lt_of_not-le (λ l. not-le_of_lt (lt_cross x y p q t)
    (transfer (num y) (num x) (den y) (den x) b a (2 ^ 1074) (2 ^ 1074) (pow_pos 1074) (pow_pos 1074) (value→cross y b (2 ^ 1074) hy) (value→cross x a (2 ^ 1074) hx) (mul-le-mul_right (2 ^ 1074) l)))

pub positive_unsigned : (r : Float) → T (positive r) → T (unsigned r)
positive_unsigned lib.Ieee.nan p = elim p [ ]
positive_unsigned (lib.Ieee.inf _) p = elim p [ ]
positive_unsigned (fin mathlib.Core.Bool.true m e) p = elim p [ ]
positive_unsigned (fin false m e) p = tt

of_number : (x r : Float) → T (positive x) → Nearest x r → SquareRoot x r
of_number lib.Ieee.nan r p n = elim p [ ]
of_number (lib.Ieee.inf _) r p n = elim p [ ]
of_number (fin false Prim.Native.Nat.zero e) r p n = elim p [ ]
of_number (fin mathlib.Core.Bool.true _ e) r p n = elim p [ ]
of_number (fin false (suc m) e) r p n = n

module _ (x r : Float) (u m w R : ℕ) (f : T (fits binary64 r)) (hx : HasValue x false u (2 ^ 1074)) (hr : HasValue r false (R * 2 ^ w) (2 ^ 1074)) (s : Scaled u m w) (g : Significand m R) where
  r_positive : T (positive r)
  r_positive = positive_of_value r (R * 2 ^ w) (2 ^ 1074) hr (mul-pos (lt_of_lt_of_le (lit< tt) g.low) (pow_pos w))

  nearest : Nearest x r
  nearest = record {
    held = f;
    number = r_positive;
    above = λ y fy v l.
        let b = to_bits binary64 y in
        let hy = in_units y fy v in
        below_middle x r y (2 ^ 1074) u (R * 2 ^ w) (units b) hx hr hy
        (rw s.same (root_below m R (2 ^ w) (units b) (pow_pos w) s.low g (coarse_units b w) (lt_units r y (R * 2 ^ w) (units b) (positive_unsigned r r_positive) v hr hy l)));
    below = λ y fy v l.
        let b = to_bits binary64 y in
        let hy = in_units y fy v in
        above_middle x r y (2 ^ 1074) u (R * 2 ^ w) (units b) hx hr hy
        (rw s.same (root_above m R (2 ^ w) (units b) (pow_pos w) s.low g (coarse_units b w) (lt_units y r (units b) (R * 2 ^ w) v (positive_unsigned r r_positive) hy hr l)));
  }

  pub is_root : SquareRoot x r
  is_root = of_number x r (positive_of_value x u (2 ^ 1074) hx (scaled_pos u m w s)) nearest
