-- R, of 53 digits, is the whole number nearest to √N, W a power of two, and Y another number of at most 53 digits times a power of two. Then the root of
-- N * W * W lies on R * W's side of the middle between R * W and Y: either Y is a multiple of W, or it is below every number of 53 digits times W.
use Rattle.std.proofs.Common.{◌≡◌, ℕ, ◌+◌, ◌-◌, ◌*◌, ◌^◌, ◌<◌, ◌≤◌, ◌⊎◌, ap, inl, inr, ⊎_elim, lt_of_lt_of_le, lt_of_le_of_lt, le_of_lt, mul-le-mul_right, mul_assoc, suc-mul, add-mul, mul-le-mul, lt_of_mul-lt-mul_right, eq-or-lt_of_le, mul-le-mul_left, mul-lt-mul_of_pos_right, mul-pos, lt_of_not-le, sub-add_cancel, mul_left_comm, arith, pow_pos, pow_mono}
use native.Mathlib.Decide.{dec_le}
use native.Mathlib.Nat.{pow-succ'}
use Rattle.roots.specs.Roots.{Significand}
use Rattle.roots.proofs.Squares.{next, twice}
use Rattle.kernels.proofs.Products.{gather}

abbrev pub Coarse : ℕ → ℕ → Type 0
Coarse Y W = ((k : ℕ) × (k * W ≡ Y)) ⊎ (Y < 2 ^ 52 * W)

pub coarse : (q j w : ℕ) → q < 2 ^ 53 → Coarse (q * 2 ^ j) (2 ^ w)
coarse q j w h = go (dec_le w j)
  where
    go : Dec (w ≤ j) → Coarse (q * 2 ^ j) (2 ^ w)
    go (yes l) = inl (q * 2 ^ (j - w), gather q (j - w) w j (sub-add_cancel l))
    go (no f) = inr (lt_of_lt_of_le (mul-lt-mul_of_pos_right h (pow_pos j)) (omega (arith, pow-succ' 2 j, pow_mono (lt_of_not-le f))))

-- the next multiple of W
step : (k l W : ℕ) → k * W < l * W → k * W + W ≤ l * W
step k l W h = omega (arith, suc-mul k W, mul-le-mul_right W (lt_of_mul-lt-mul_right W h))

-- from √N beside A / 2 to the root of N * W * W beside Z / 2
module _ (N A W Z : ℕ) (p : 0 < W) where
  square_above : 4 * N < A * A → A * W ≤ Z → 4 * (N * W * W) < Z * Z
  square_above h l = lt_of_lt_of_le (simp (mul_assoc, mul_left_comm) (simp mul_assoc at (mul-lt-mul_of_pos_right h (mul-pos p p)))) (mul-le-mul l l)

  square_below : A * A < 4 * N → Z ≤ A * W → Z * Z < 4 * (N * W * W)
  square_below h l = lt_of_le_of_lt (mul-le-mul l l) (simp (mul_assoc, mul_left_comm) (simp mul_assoc at (mul-lt-mul_of_pos_right h (mul-pos p p))))

  square_under : A * A ≤ 4 * N → Z < A * W → Z * Z < 4 * (N * W * W)
  square_under h l =
      lt_of_lt_of_le (lt_of_le_of_lt (mul-le-mul_left Z (le_of_lt l)) (mul-lt-mul_of_pos_right l (omega arith)))
      (simp (mul_assoc, mul_left_comm) (simp mul_assoc at (mul-le-mul_right (W * W) h)))

module _ (m R W Y : ℕ) (p : 0 < W) (large : 2 ^ 52 ≤ m) (s : Significand m R) (c : Coarse Y W) where
  pub root_below : R * W < Y → 4 * (m * 2 ^ 52 * W * W) < (R * W + Y) * (R * W + Y)
  root_below h =
      let g : R * W + W ≤ Y = ⊎_elim (λ k. omega (arith, step R k.0 W (omega (arith, k.1)), k.1)) (λ l. omega (arith, mul-le-mul_right W s.low)) c in
      square_above (m * 2 ^ 52) (2 * R + 1) W (R * W + Y) p (omega (arith, next (2 * R), twice R, s.nearest.under)) (omega (arith, add-mul (2 * R) 1 W, mul_assoc 2 R W))

  pub root_above : Y < R * W → (R * W + Y) * (R * W + Y) < 4 * (m * 2 ^ 52 * W * W)
  root_above h = ⊎_elim at_least more (eq-or-lt_of_le s.low)
    where
      at_least : 2 ^ 52 ≡ R → (R * W + Y) * (R * W + Y) < 4 * (m * 2 ^ 52 * W * W)
      at_least e = square_under (m * 2 ^ 52) (2 * R) W (R * W + Y) p (omega (arith, twice R, ap (λ (z : ℕ). z * z) e)) (omega (arith, mul_assoc 2 R W))

      before : (A : ℕ) → A + 1 ≡ 2 * R → Y + W ≤ R * W → (R * W + Y) * (R * W + Y) < 4 * (m * 2 ^ 52 * W * W)
      before A e g = square_below (m * 2 ^ 52) A W (R * W + Y) p (omega (arith, next A, ap (λ (z : ℕ). z * z) e, twice R, s.nearest.over)) (omega (arith, add-mul A 1 W, ap (λ (z : ℕ). z * W) e, mul_assoc 2 R W))

      more : 2 ^ 52 < R → (R * W + Y) * (R * W + Y) < 4 * (m * 2 ^ 52 * W * W)
      more l = before (2 * R - 1) (omega arith) (⊎_elim (λ k. omega (arith, step k.0 R W (omega (arith, k.1)), k.1)) (λ y. omega (arith, mul-le-mul_right W l, suc-mul (2 ^ 52) W)) c)
