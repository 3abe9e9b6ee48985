-- Whole numbers with a sign, as the code has them in 64 bits.
use Rattle.std.proofs.Common.{◌≡◌, ℕ, zero, suc, ◌+◌, ◌-◌, ◌/◌, ◌<◌, ◌≤◌, ltb, ℤ, pos, negsuc, ◌+ℤ◌, ◌-ℤ◌, sym, refl, ap, ◌∙◌, subst, lt_of_le_of_lt, arith, ltb→lt, nltb→le, w32, w64, SFits, to_z, of_z}
use lib.IntN.{sub_ℕ}
use lib.Signed.{mag, shr_z}
use borrow.Author.Rules.{sfits_of}
use mir.ValLaws.{to_z-of_z}
use Rattle.roots.proofs.Squares.{by_cond}
use Rattle.kernels.specs.Exp.{floor_half}

pub small : (e : ℤ) → mag e ≤ 5000 → SFits w64 e
small e h = sfits_of (lt_of_le_of_lt h (omega arith))

-- a small one comes back from its 64 bits
pub back : (e : ℤ) → mag e ≤ 5000 → to_z w64 (of_z w64 e) ≡ e
back e h = to_z-of_z w64 e (small e h)

-- and so does its cast to 32 bits, through which it becomes a float
pub narrow : (e : ℤ) → mag e ≤ 5000 → SFits w32 (to_z w64 (of_z w64 e))
narrow e h = subst (SFits w32) (sym (back e h)) (sfits_of (lt_of_le_of_lt h (omega arith)))

pub narrow_back : (e : ℤ) → mag e ≤ 5000 → to_z w32 (of_z w32 (to_z w64 (of_z w64 e))) ≡ e
narrow_back e h = to_z-of_z w32 (to_z w64 (of_z w64 e)) (narrow e h) ∙ back e h

-- ---- k - h, where one of the two may be the larger
pub sub_pos : (a b n : ℕ) → a ≡ b + n → sub_ℕ a b ≡ pos n
sub_pos a b n h = by_cond (λ (z : ℤ). z ≡ pos n) (ltb a b) (negsuc (b - suc a)) (pos (a - b)) (λ t. absurd (no (ltb→lt a b t))) (λ t. ap pos (omega arith))
  where
    no : a < b → ⊥
    no g = omega arith

sub_neg : (a b n : ℕ) → b ≡ a + suc n → sub_ℕ a b ≡ negsuc n
sub_neg a b n h = by_cond (λ (z : ℤ). z ≡ negsuc n) (ltb a b) (negsuc (b - suc a)) (pos (a - b)) (λ t. ap negsuc (omega arith)) (λ t. absurd (no (nltb→le a b t)))
  where
    no : b ≤ a → ⊥
    no g = omega arith

-- a - b depends on the difference alone
pub sub_same : (a b c d : ℕ) → a + d ≡ c + b → sub_ℕ a b ≡ sub_ℕ c d
sub_same a b c d h =
    by_cond (λ (z : ℤ). sub_ℕ a b ≡ z) (ltb c d) (negsuc (d - suc c)) (pos (c - d)) (λ t. sub_neg a b (d - suc c) (less (ltb→lt c d t))) (λ t. sub_pos a b (c - d) (more (nltb→le c d t)))
  where
    less : c < d → b ≡ a + suc (d - suc c)
    less g = omega arith

    more : d ≤ c → a ≡ b + (c - d)
    more g = omega arith

pub sub_near : (a b n : ℕ) → a - b ≤ n → b - a ≤ n → mag (sub_ℕ a b) ≤ n
sub_near a b n h k = by_cond (λ (z : ℤ). mag z ≤ n) (ltb a b) (negsuc (b - suc a)) (pos (a - b)) (λ t. less a b n k) (λ t. h)
  where
    less : (a b n : ℕ) → b - a ≤ n → b - suc a ≤ n
    less a b n h = omega arith

pos_near : (a b n : ℕ) → a - b ≤ n → b - a ≤ n → mag (pos a -ℤ pos b) ≤ n
pos_near a zero n h k = omega arith
pos_near a (suc b) n h k = sub_near a (suc b) n h k

-- ---- the two halves of k
pub half_is : (k : ℤ) → shr_z k 2 ≡ floor_half k
half_is (pos n) = refl
half_is (negsuc n) = refl

pub half_near : (k : ℤ) → mag k ≤ 1078 → mag (floor_half k) ≤ 1000
half_near (pos n) h = omega arith
half_near (negsuc n) h = omega arith

pub rest_near : (k : ℤ) → mag k ≤ 1078 → mag (k -ℤ floor_half k) ≤ 1000
rest_near (pos n) h = pos_near n (n / 2) 1000 (omega arith) (omega arith)
rest_near (negsuc n) h = sub_near (suc (n / 2)) (suc n) 1000 (omega arith) (omega arith)

pub next_near : (e : ℤ) → mag (e +ℤ pos 1) ≤ mag e + 2
next_near (pos n) = omega arith
next_near (negsuc n) = sub_near 1 (suc n) (n + 2) (omega arith) (omega arith)
