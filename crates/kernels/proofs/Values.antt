-- One number is one value of binary64: two values that fit and have the same fraction have the same bit pattern, and a value rounds to itself.
use Rattle.std.proofs.Common.{◌≡◌, ℕ, zero, suc, ◌+◌, ◌-◌, ◌*◌, ◌/◌, ◌^◌, ◌<◌, ◌≤◌, Bool, false, T, ℤ, pos, negsuc, sym, refl, ap, ◌∙◌, subst, le_of_eq, lt_of_lt_of_le, le_antisymm, zero-mul, mul-one, mul_right_comm, arith, lit<, pow_pos, pow_mono, shl_lt}
use lib.Ieee.{Float, fin, binary64, up, down, fits, of_bits, to_bits, size}
use lib.Ieee.Fits.{down_pos}
use lib.Ieee.Bits.{of_bits-to_bits}
use lib.Ieee.Exact.{HasValue, round_exact}
use lib.Ieee.Nearest.{div_same}
use lib.Ieee.Order.{transfer}
use Rattle.kernels.proofs.Products.{gather, exponent_le}
use Rattle.kernels.proofs.Patterns.{fits_parts}
use Rattle.kernels.proofs.Bounds.{Value}

same_pattern : (m n : ℕ) (e f : ℤ) → m * up e * down f ≡ n * up f * down e → to_bits binary64 (fin false m e) ≡ to_bits binary64 (fin false n f)
unfolding to_bits
same_pattern m n e f h =
    ap (λ (k : ℕ). 0 + (size k - 53) * 2 ^ 52 + k / 2 ^ (size k - 53))
    (div_same (m * up e * 2 ^ 1074) (down e) (n * up f * 2 ^ 1074) (down f) (down_pos e) (down_pos f)
    (mul_right_comm (m * up e) (2 ^ 1074) (down f) ∙ ap (λ (z : ℕ). z * 2 ^ 1074) h ∙ mul_right_comm (n * up f) (down e) (2 ^ 1074)))

pub same_number : (m n : ℕ) (e f : ℤ) → T (fits binary64 (fin false m e)) → T (fits binary64 (fin false n f)) → m * up e * down f ≡ n * up f * down e → fin false m e ≡ fin false n f
same_number m n e f u v h = sym (of_bits-to_bits binary64 (fin false m e) u) ∙ ap (of_bits binary64) (same_pattern m n e f h) ∙ of_bits-to_bits binary64 (fin false n f) v

pub same_value : (x y : Float) (a c b d : ℕ) → T (fits binary64 x) → T (fits binary64 y) → 0 < c → 0 < d → HasValue x false a c → HasValue y false b d → a * d ≡ b * c → x ≡ y
same_value lib.Ieee.nan y a c b d u v p q h k r = elim h [ ]
same_value (lib.Ieee.inf _) y a c b d u v p q h k r = elim h [ ]
same_value (fin s m e) lib.Ieee.nan a c b d u v p q h k r = elim k [ ]
same_value (fin s m e) (lib.Ieee.inf _) a c b d u v p q h k r = elim k [ ]
same_value (fin s m e) (fin t n f) a c b d u v p q h k r =
    ap (λ (z : Bool). fin z m e) h.0
    ∙ same_number m n e f (subst (λ (z : Bool). T (fits binary64 (fin z m e))) h.0 u) (subst (λ (z : Bool). T (fits binary64 (fin z n f))) k.0 v)
    (le_antisymm (transfer (m * up e) (n * up f) (down e) (down f) a b c d p q h.1 k.1 (le_of_eq r)) (transfer (n * up f) (m * up e) (down f) (down e) b a d c q p k.1 h.1 (le_of_eq (sym r))))
    ∙ ap (λ (z : Bool). fin z n f) (sym k.0)

-- num / den of a value is a value
pub itself : (m : ℕ) (e : ℤ) → T (fits binary64 (fin false m e)) → Value (down e) (m * up e)
itself zero e f = round_exact binary64 false (0 * up e) (down e) 0 0 (down_pos e) (lit< tt) (lit< tt) (simp zero-mul)
itself (suc m) (pos k) f =
    let (s, h, l) = fits_parts false m (pos k) f in
    round_exact binary64 false (suc m * 2 ^ k) 1 (suc m) (k + 1074) (lit< tt) s (rw (← gather (suc m) k 1074 (k + 1074) refl) (shl_lt 1024 1074 (rw mul-one at l))) (gather (suc m) k 1074 (k + 1074) refl ∙ sym (mul-one (suc m * 2 ^ (k + 1074))))
itself (suc m) (negsuc k) f =
    let (s, h, l) = fits_parts false m (negsuc k) f in
    let d : suc k ≤ 1074 = exponent_le h in
    round_exact binary64 false (suc m * 1) (2 ^ suc k) (suc m) (1074 - suc k) (pow_pos (suc k)) s (lt_of_lt_of_le (shl_lt 53 (1074 - suc k) s) (pow_mono {j = 2098} (omega arith))) (rw mul-one (sym (gather (suc m) (1074 - suc k) (suc k) 1074 (omega arith))))
