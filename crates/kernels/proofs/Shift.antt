-- A subnormal's digits: shifted until the leading one stands at bit 52.
use Rattle.std.proofs.Common.{◌≡◌, ℕ, suc, ◌+◌, ◌-◌, ◌*◌, ◌/◌, ◌%◌, ◌^◌, ◌<◌, ◌≤◌, sym, ap, ◌∙◌, lt_of_lt_of_le, lt_of_le_of_lt, lt_of_not-le, arith, lit≤, shl_lt}
use native.Mathlib.Decide.{dec_le}
use lib.Count.{count_leading_zeros, leading_top}
use Rattle.kernels.specs.Inner.{Digits, infinite}
use Rattle.kernels.proofs.Products.{gather, exponent_lt, shl_le}
use Rattle.kernels.proofs.Patterns.{units_subnormal, digits_normal}

-- z places up, the leading digit of b stands at bit 52
pub record Shifted (b z : ℕ) : Type 0 where
  pub enough : 11 ≤ count_leading_zeros 64 b
  pub most : z ≤ 52
  pub low : 2 ^ 52 ≤ b * 2 ^ z
  pub high : b * 2 ^ z < 2 ^ 53

pub shifted : (b : ℕ) → 0 < b → b < 2 ^ 52 → Shifted b (count_leading_zeros 64 b - 11)
shifted b p h =
    let t = leading_top 64 b p (lt_of_lt_of_le h (lit≤ tt)) in
    let j = t.0 in
    let z = count_leading_zeros 64 b - 11 in
    let l : j < 52 = exponent_lt (lt_of_le_of_lt t.2 h) in
    let e : count_leading_zeros 64 b + suc j ≡ 64 = t.1 in
    let s : j + z ≡ 52 = omega arith in
    let s' : suc j + z ≡ 53 = omega arith in
    record {
      enough = omega arith;
      most = omega arith;
      low = rw s at (shl_le j z t.2);
      high = rw s' at (shl_lt (suc j) z t.3);
    }

pub digits_subnormal : (b : ℕ) → 0 < b → b < 2 ^ 52 → Digits b (b * 2 ^ (count_leading_zeros 64 b - 11)) (64 - (count_leading_zeros 64 b - 11))
digits_subnormal b p h =
    let s = shifted b p h in
    let z = count_leading_zeros 64 b - 11 in
    record {
      low = s.low;
      high = s.high;
      least = omega (arith, s.most);
      most = omega arith;
      same = ap (λ (u : ℕ). u * 2 ^ 64) (units_subnormal b h) ∙ sym (gather b z (64 - z) 64 (omega (arith, s.most)));
    }

pub digits : (b : ℕ) → 0 < b → b < infinite → (d : ℕ) × (p : ℕ) × Digits b d p
digits b p h = go (dec_le (2 ^ 52) b)
  where
    go : Dec (2 ^ 52 ≤ b) → (d : ℕ) × (p : ℕ) × Digits b d p
    go (yes l) = (b % 2 ^ 52 + 2 ^ 52, b / 2 ^ 52 + 63, digits_normal b l h)
    go (no f) = (b * 2 ^ (count_leading_zeros 64 b - 11), 64 - (count_leading_zeros 64 b - 11), digits_subnormal b p (lt_of_not-le f))
