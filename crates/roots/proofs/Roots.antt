-- Roots of whole numbers, by squares: rounded down, as the rule and the code find them, and from there to the nearest.
use mathlib.Core.Path.{◌≡◌, refl, ◌∙◌}
use mathlib.Core.Bool.{◌&&◌}
use Prim.Native.Nat.{ℕ, zero, suc, ◌+◌, ◌-◌, ◌*◌, ◌/◌, ◌^◌, ◌≤◌, ◌<◌}
use native.Mathlib.Nat.{pow-succ', mul-le-mul, mul-le-mul_left, sub-add_cancel, le_antisymm, le_of_suc-le-suc, lt_of_not-le, not-le_of_lt, lt_of_le_of_lt}
use native.Mathlib.Omega.{arith}
use lib.Dec.{leb, ltb, leb→le, le→leb, nleb→lt, ltb→lt, lt→ltb, T_not}
use mir.Facts.{yes_and, and_yes}
use Rattle.roots.specs.Roots.{lift, floor_root, nearer, rounded_root_lem, Largest, Floor, Rounded, Significand}
use Rattle.roots.proofs.Squares.{next, twice, by_cond}

-- the order of squares is that of their roots
pub square_lt : (r k : ℕ) → r * r < k * k → r < k
square_lt r k h = lt_of_not-le (λ l. not-le_of_lt h (mul-le-mul l l))

pub root_from : (k : ℕ) {n r : ℕ} → Largest n r → k * k ≤ n → k ≤ r
root_from k {n} {r} l h = omega (arith, square_lt k (r + 1) (lt_of_le_of_lt h l.over))

pub root_under : (k : ℕ) {n r : ℕ} → Largest n r → n < k * k → r < k
root_under k {n} {r} l h = square_lt r k (lt_of_le_of_lt l.under h)

floor_of : (n r : ℕ) → Largest n r → Floor n r (n - r * r)
floor_of n r l = record { whole = omega arith; rest = omega (arith, next r) }

pub largest_of : (n r d : ℕ) → Floor n r d → Largest n r
largest_of n r d f = record { under = omega arith; over = omega (arith, next r) }

-- ---- the rule's root
lifted : (n r : ℕ) → r * r ≤ n → n < (r + 1 + 1) * (r + 1 + 1) → Largest n (lift n r)
lifted n r u o = by_cond (Largest n) (leb ((r + 1) * (r + 1)) n) (r + 1) r (λ t. record { under = leb→le ((r + 1) * (r + 1)) n t; over = o }) (λ t. record { under = u; over = nleb→lt ((r + 1) * (r + 1)) n t })

floor_root_lem : (k n : ℕ) → n < 4 ^ k → Largest n (floor_root k n)
unfolding floor_root
floor_root_lem zero n h = record { under = omega arith; over = h }
floor_root_lem (suc k) n h =
    let s = floor_root k (n / 4) in
    let l : Largest (n / 4) s = floor_root_lem k (n / 4) (omega (arith, pow-succ' 4 k)) in
    lifted n (2 * s) (omega (arith, twice s)) (omega (arith, twice s, next s, next (2 * s), next (2 * s + 1)))

-- ---- the nearest: above the root rounded down where more than that root is left
module _ (n r d : ℕ) (f : Floor n r d) where
  pub round_up : r < d → Rounded n (r + 1)
  round_up l = record { under = omega (arith, next r); over = omega (arith, next r) }

  pub round_down : 0 < r → d ≤ r → Rounded n r
  round_down p l = record { under = omega arith; over = omega arith }

-- there is one: where s is above r, s·s - s is at least r·r + r
not_above : (n r s : ℕ) → Rounded n r → Rounded n s → s ≤ r
not_above n r s a b = le_of_suc-le-suc (lt_of_not-le above)
  where
    above : suc r ≤ s → ⊥
    above l =
        let k : r ≤ s - 1 = omega arith in
        let e : s * s ≡ (s - 1) * (s - 1) + 2 * (s - 1) + 1 = rw (sub-add_cancel {n = s} {m = 1} (omega arith)) at (next (s - 1)) in
        omega (arith, a.under, b.over, mul-le-mul k k)

pub one_rounded : (n r s : ℕ) → Rounded n r → Rounded n s → r ≡ s
one_rounded n r s a b = le_antisymm (not_above n s r b a) (not_above n r s a b)

-- ---- the nearest to the root of m * 2 ^ 52
abbrev nearest : ℕ → ℕ
nearest m = nearer (m * 2 ^ 52) (floor_root 53 (m * 2 ^ 52))

pub root_pos : (m r d : ℕ) → 2 ^ 52 ≤ m → Floor (m * 2 ^ 52) r d → 0 < r
root_pos m r d h f = root_from 1 (largest_of (m * 2 ^ 52) r d f) (omega arith)

nearest_rounded : (m : ℕ) → 2 ^ 52 ≤ m → m < 2 ^ 54 → Rounded (m * 2 ^ 52) (nearest m)
nearest_rounded m h k =
    let n = m * 2 ^ 52 in
    let r = floor_root 53 n in
    let f = floor_of n r (floor_root_lem 53 n (omega arith)) in
    by_cond (Rounded n) (leb n (r * r + r)) r (r + 1) (λ t. round_down n r (n - r * r) f (root_pos m r (n - r * r) h f) (omega (arith, leb→le n (r * r + r) t))) (λ t. round_up n r (n - r * r) f (omega (arith, nleb→lt n (r * r + r) t)))

-- it has 53 digits where m is below 2 ^ 54 - 1
pub nearer_root : (m : ℕ) → 2 ^ 52 ≤ m → m < 2 ^ 54 - 1 → Significand m (nearer (m * 2 ^ 52) (floor_root 53 (m * 2 ^ 52)))
nearer_root m h k =
    let r = nearest m in
    let n = nearest_rounded m h (omega arith) in
    record {
      nearest = n;
      low = lt_of_not-le (λ l. let q : r * r ≤ r * (2 ^ 52 - 1) = mul-le-mul_left r l in omega arith);
      high = lt_of_not-le (λ l. let q : r * 2 ^ 53 ≤ r * r = mul-le-mul_left r l in omega arith);
    }

-- ---- what `rounded_root` promises
module _ (m : ℕ) where
  is_nearest : 2 ^ 52 ≤ m → m < 2 ^ 54 → nearest m ≡ rounded_root_lem m
  unfolding rounded_root_lem
  is_nearest h k = by_cond (λ (z : ℕ). nearest m ≡ z) (leb (2 ^ 52) m && ltb m (2 ^ 54)) (nearest m) 0 (λ t. refl) (λ t. absurd (T_not (leb (2 ^ 52) m && ltb m (2 ^ 54)) t (yes_and (leb (2 ^ 52) m) (ltb m (2 ^ 54)) (le→leb (2 ^ 52) m h) (lt→ltb m (2 ^ 54) k))))

  pub inside : (r : ℕ) → 2 ^ 52 ≤ m → m < 2 ^ 54 → Rounded (m * 2 ^ 52) r → r ≡ rounded_root_lem m
  inside r h k a = one_rounded (m * 2 ^ 52) r (nearest m) a (nearest_rounded m h k) ∙ is_nearest h k

  pub outside : (2 ^ 52 ≤ m → m < 2 ^ 54 → ⊥) → 0 ≡ rounded_root_lem m
  unfolding rounded_root_lem
  outside f = by_cond (λ (z : ℕ). 0 ≡ z) (leb (2 ^ 52) m && ltb m (2 ^ 54)) (nearest m) 0 (λ t. let b = and_yes (leb (2 ^ 52) m) (ltb m (2 ^ 54)) t in absurd (f (leb→le (2 ^ 52) m b.0) (ltb→lt m (2 ^ 54) b.1))) (λ t. refl)

  pub rounded_significand : 2 ^ 52 ≤ m → m < 2 ^ 54 - 1 → Significand m (rounded_root_lem m)
  rounded_significand h k = rw (is_nearest h (omega arith)) at (nearer_root m h k)
