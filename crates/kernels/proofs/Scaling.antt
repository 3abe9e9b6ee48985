-- Each pattern's number with an even exponent, so that its root is the root of a whole number of 105 or 106 digits, moved by whole places.
use Rattle.std.proofs.Common.{◌≡◌, ℕ, ◌+◌, ◌-◌, ◌*◌, ◌/◌, ◌%◌, ◌^◌, ◌<◌, ◌≤◌, sym, refl, ap, ◌∙◌, lt_of_lt_of_le, lt_of_le_of_lt, mul_assoc, mul-pos, arith, lit<, pow_pos}
use native.Mathlib.Decide.{ℕ_discrete}
use lib.Pow.{shl-shr}
use lib.Ieee.Positive.{first_pos}
use lib.Ieee.{size}
use lib.Ieee.Digits.{size-lt, size-le}
use Rattle.roots.specs.Roots.{floor_root, nearer}
use Rattle.kernels.specs.Numbers.{quotient}
use Rattle.kernels.specs.Inner.{infinite, units, Digits, Scaled}
use Rattle.kernels.specs.Sqrt.{root_of, root_placed}
use Rattle.kernels.proofs.Shift.{digits}
use Rattle.kernels.proofs.Products.{gather, gather₃, exponent_lt}
use Rattle.kernels.proofs.Sizes.{size_shift}

-- what `even` promises
abbrev Even : ℕ → ℕ → ℕ → ℕ → Type 0
Even d p m w = d * 2 ^ p * 2 ^ 1010 ≡ m * 2 ^ 52 * 2 ^ w * 2 ^ w

pub even_places : (d p : ℕ) → p % 2 ≡ 0 → Even d p d (p / 2 + 479)
even_places d p h = let w = p / 2 + 479 in gather d p 1010 (52 + w + w) (omega arith) ∙ sym (gather₃ d 52 w w (52 + w + w) refl)

pub odd_places : (d p : ℕ) → (p % 2 ≡ 0 → ⊥) → Even d p (d * 2) (p / 2 + 479)
odd_places d p h =
    let w = p / 2 + 479 in
    gather d p 1010 (53 + w + w) (omega arith) ∙ sym (gather₃ d 53 w w (53 + w + w) refl) ∙ ap (λ (n : ℕ). n * 2 ^ w * 2 ^ w) (sym (mul_assoc d 2 (2 ^ 52)))

pub scaled : (b d p m w : ℕ) → Digits b d p → 2 ^ 52 ≤ m → m < 2 ^ 54 - 1 → w < 2040 → Even d p m w → Scaled (units b) m w
scaled b d p m w g h k l e = record {
  low = h;
  high = k;
  places = l;
  same = sym (gather (units b) 64 1010 1074 refl) ∙ ap (λ (n : ℕ). n * 2 ^ 1010) g.same ∙ e;
}

pub scaled_units : (b : ℕ) → 0 < b → b < infinite → (m : ℕ) × (w : ℕ) × Scaled (units b) m w
scaled_units b h k = let t = digits b h k in by_parity t.0 t.1 t.2 (ℕ_discrete (t.1 % 2) 0)
  where
    by_parity : (d p : ℕ) → Digits b d p → Dec (p % 2 ≡ 0) → (m : ℕ) × (w : ℕ) × Scaled (units b) m w
    by_parity d p g (yes e) = (d, p / 2 + 479, scaled b d p d (p / 2 + 479) g g.low (omega (arith, g.high)) (omega (arith, g.most)) (even_places d p e))
    by_parity d p g (no o) = (d * 2, p / 2 + 479, scaled b d p (d * 2) (p / 2 + 479) g (omega (arith, g.low)) (omega (arith, g.high)) (omega (arith, g.most)) (odd_places d p o))

pub scaled_pos : (u m w : ℕ) → Scaled u m w → 0 < u
scaled_pos u m w s = first_pos u (2 ^ 1074) (rw s.same (mul-pos (mul-pos (mul-pos (lt_of_lt_of_le (lit< tt) s.low) (pow_pos 52)) (pow_pos w)) (pow_pos w)))

-- ---- the rule takes the same places
places_are : (n w : ℕ) → 2 ^ 104 ≤ n → n < 2 ^ 106 → (size (n * 2 ^ (2 * w)) - 105) / 2 ≡ w
places_are n w h k =
    let l : 104 < size n = exponent_lt (lt_of_le_of_lt h (size-lt n)) in
    omega (arith, size-le n 106 k, size_shift n (2 * w) (omega arith))

pub rule_root : (u m w : ℕ) → Scaled u m w → root_of (u * 2 ^ 1074) ≡ quotient (nearer (m * 2 ^ 52) (floor_root 53 (m * 2 ^ 52)) * 2 ^ w) (2 ^ 1074)
unfolding root_of root_placed
rule_root u m w s =
    let n = m * 2 ^ 52 in
    ap root_of (s.same ∙ gather n w w (2 * w) (omega arith))
    ∙ ap (root_placed (n * 2 ^ (2 * w))) (places_are n w (omega arith) (omega arith))
    ∙ ap (λ (k : ℕ). quotient (nearer k (floor_root 53 k) * 2 ^ w) (2 ^ 1074)) (shl-shr n (2 * w))
