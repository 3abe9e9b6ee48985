-- Bounds of binary64 operations. Where N / G is itself a value of binary64, and N / 2^g is for N below 2^53 and g up to 1074, what bounds an exact result by
-- it bounds the rounded one, since rounding keeps the order. No rounding error is estimated anywhere.
use Rattle.std.proofs.Common.{◌≡◌, ℕ, zero, suc, ◌+◌, ◌-◌, ◌*◌, ◌/◌, ◌^◌, ◌<◌, ◌≤◌, min, Bool, true, false, cond, not, ◌&&◌, ◌||◌, T, eqb, ltb, pos, neg_ℤ, sym, refl, ap, ◌∙◌, subst, le_trans, le_of_eq, le_refl, lt_of_lt_of_le, lt_of_le_of_lt, le_of_lt, add-le-add, mul-le-mul_right, mul_assoc, suc-mul, mul_comm, add-mul, mul-le-mul, add_comm, mul-pos, one-mul, mul-one, mul_right_comm, le_of_mul-le-mul_right, mul_left_comm, arith, lit<, eqb→eq, ltb→lt, lt→ltb, nltb→le, pow_pos, pow_mono, pow-add, shl_lt}
use mathlib.Core.Bool.{beq}
use native.Mathlib.Nat.{div-le_of_le-mul, pow-succ'}
use lib.Signed.{mag}
use lib.Pow.{pow-lt}
use lib.Ieee.{Float, nan, inf, fin, binary64, up, down, unlike, odd, units, round, sum, add, sub, neg, mul, le, lt, eq, below, is_nan, to_signed}
use lib.Ieee.Fits.{round_is, down_pos}
use lib.Ieee.Exact.{HasValue, round_exact}
use lib.Ieee.Order.{round_mono}
use lib.Ieee.Positive.{through}
use Rattle.roots.proofs.Squares.{by_cond}
use Rattle.kernels.specs.Numbers.{finite}
use Rattle.kernels.specs.Inner.{Within}

pub clash : {X : Type 0} → true ≡ false → X
clash e = absurd (subst T e tt)

-- ---- a sign changes no bound
abbrev pub size_of : Float → Float
size_of nan = nan
size_of (inf s) = inf false
size_of (fin s m e) = fin false m e

units_size : (s : Bool) (q k : ℕ) → size_of (units binary64 s q k) ≡ units binary64 false q k
unfolding units odd
units_size s q k = go (ltb (q * 2 ^ k) (2 ^ 2098)) q
  where
    go : (b : Bool) (q : ℕ) → size_of (cond b (odd 54 s q k 1074) (inf s)) ≡ cond b (odd 54 false q k 1074) (inf false)
    go true zero = refl
    go true (suc q) = refl
    go false q = refl

pub round_size : (s : Bool) (a c : ℕ) → size_of (round binary64 s a c) ≡ round binary64 false a c
round_size s a c = ap size_of (round_is binary64 s a c) ∙ units_size s _ _ ∙ sym (round_is binary64 false a c)

pub neg_within : (G N : ℕ) (x : Float) → Within G N x → Within G N (neg x)
unfolding neg
neg_within G N nan h = elim h [ ]
neg_within G N (inf _) h = elim h [ ]
neg_within G N (fin s m e) h = h

pub or_le : (a b : ℕ) → T (ltb a b || (eqb a b && true)) → a ≤ b
or_le a b t = go (ltb a b) (eqb a b) (λ u. le_of_lt (ltb→lt a b u)) (λ u. le_of_eq (eqb→eq a b u)) t
  where
    go : (x y : Bool) → (T x → a ≤ b) → (T y → a ≤ b) → T (x || (y && true)) → a ≤ b
    go true y f g t = f tt
    go false true f g t = g tt
    go false false f g t = absurd t

-- y is at most N / G in size, and x is no larger
pub le_within : (x y : Float) (G N : ℕ) → Within G N y → T (le (size_of x) (size_of y)) → Within G N x
unfolding le
le_within nan nan G N h l = elim h [ ]
le_within nan (inf _) G N h l = elim h [ ]
le_within (inf s) nan G N h l = elim h [ ]
le_within (inf s) (inf _) G N h l = elim h [ ]
le_within (fin s m e) nan G N h l = elim h [ ]
le_within (fin s m e) (inf _) G N h l = elim h [ ]
le_within nan (fin t n d) G N h l = absurd l
le_within (inf s) (fin t n d) G N h l = absurd l
le_within (fin s m e) (fin t n d) G N h l = through (m * up e) (n * up d) N (down e) (down d) G (down_pos d) (or_le (m * up e * down d) (n * up d * down e) l) h

-- ---- a rounded fraction
-- N / G is itself a value of binary64
abbrev pub Value : ℕ → ℕ → Type 0
Value G N = HasValue (round binary64 false N G) false N G

pub there : (g N : ℕ) → g ≤ 1074 → N < 2 ^ 53 → Value (2 ^ g) N
there g N h k =
    round_exact binary64 false N (2 ^ g) N (1074 - g) (pow_pos g) k
    (lt_of_lt_of_le (shl_lt 53 (1074 - g) k) (pow_mono (room g)))
    (ap (λ (x : ℕ). N * 2 ^ x) (split g h) ∙ ap (λ (x : ℕ). N * x) (pow-add 2 (1074 - g) g) ∙ sym (mul_assoc N (2 ^ (1074 - g)) (2 ^ g)))
  where
    room : (g : ℕ) → 53 + (1074 - g) ≤ 2098
    room g = omega arith

    split : (g : ℕ) → g ≤ 1074 → 1074 ≡ 1074 - g + g
    split g h = omega arith

pub power : (i : ℕ) → i ≤ 1023 → Value 1 (2 ^ i)
power i h = round_exact binary64 false (2 ^ i) 1 1 (i + 1074) (lit< tt) (lit< tt) (rw one-mul (pow-lt {j = 2098} (omega arith))) (rw (one-mul, mul-one, pow-add))

pub round_below : (s : Bool) (G N a c : ℕ) → 0 < c → 0 < G → Value G N → a * G ≤ N * c → Within G N (round binary64 s a c)
round_below s G N a c C g v k =
    le_within (round binary64 s a c) (round binary64 false N G) G N (value_within (round binary64 false N G) v) (rw (round_size s a c, round_size false N G) (round_mono binary64 a c N G C g k))
  where
    value_within : (x : Float) → HasValue x false N G → Within G N x
    value_within nan h = elim h [ ]
    value_within (inf _) h = elim h [ ]
    value_within (fin t m e) h = le_of_eq h.1

pub round_within : (s : Bool) (g N a c : ℕ) → 0 < c → g ≤ 1074 → N < 2 ^ 53 → a * 2 ^ g ≤ N * c → Within (2 ^ g) N (round binary64 s a c)
round_within s g N a c C G h k = round_below s (2 ^ g) N a c C (pow_pos g) (there g N G h) k

-- ---- a product
pub prod_le : (X Y A B p q G H K N : ℕ) → 0 < G * H → X * G ≤ A * p → Y * H ≤ B * q → A * B * K ≤ N * (G * H) → X * Y * K ≤ N * (p * q)
prod_le X Y A B p q G H K N Z u v w =
    let l : X * Y * K * (G * H) ≡ X * G * (Y * H) * K = simp (mul_assoc, mul_comm, mul_left_comm) in
    let r : A * p * (B * q) * K ≡ A * B * K * (p * q) = simp (mul_assoc, mul_comm, mul_left_comm) in
    le_of_mul-le-mul_right
    (le_trans (le_of_eq l) (le_trans (mul-le-mul_right K (mul-le-mul u v)) (le_trans (le_of_eq r) (le_trans (mul-le-mul_right (p * q) w) (le_of_eq (mul_right_comm N (G * H) (p * q)))))))
    Z

pub mul_below : (G A : ℕ) (x : Float) (H B : ℕ) (y : Float) (K N : ℕ) → 0 < G * H → 0 < K → Value K N → Within G A x → Within H B y → A * B * K ≤ N * (G * H) → Within K N (mul binary64 x y)
unfolding mul
mul_below G A nan H B y K N Z k F u v w = elim u [ ]
mul_below G A (inf _) H B y K N Z k F u v w = elim u [ ]
mul_below G A (fin s m e) H B nan K N Z k F u v w = elim v [ ]
mul_below G A (fin s m e) H B (inf _) K N Z k F u v w = elim v [ ]
mul_below G A (fin s m e) H B (fin t n d) K N Z k F u v w =
    round_below (unlike s t) K N (m * up e * (n * up d)) (down e * down d) (mul-pos (down_pos e) (down_pos d)) k F
    (prod_le (m * up e) (n * up d) A B (down e) (down d) G H K N Z u v w)

pub mul_within : (g A : ℕ) (x : Float) (h B : ℕ) (y : Float) (k N : ℕ) → Within (2 ^ g) A x → Within (2 ^ h) B y → k ≤ 1074 → N < 2 ^ 53 → A * B * 2 ^ k ≤ N * (2 ^ g * 2 ^ h) → Within (2 ^ k) N (mul binary64 x y)
mul_within g A x h B y k N u v K M w = mul_below (2 ^ g) A x (2 ^ h) B y (2 ^ k) N (mul-pos (pow_pos g) (pow_pos h)) (pow_pos k) (there k N K M) u v w

-- ---- a sum, and a difference
pub cross_le : (X p q A G : ℕ) → X * G ≤ A * p → X * q * G ≤ A * (p * q)
cross_le X p q A G h = le_trans (le_of_eq (mul_right_comm X q G)) (le_trans (mul-le-mul_right q h) (le_of_eq (mul_assoc A p q)))

add_below : (G A : ℕ) (x : Float) (B : ℕ) (y : Float) (N : ℕ) → 0 < G → Value G N → Within G A x → Within G B y → A + B ≤ N → Within G N (add binary64 x y)
unfolding add sum
add_below G A nan B y N g F u v w = elim u [ ]
add_below G A (inf _) B y N g F u v w = elim u [ ]
add_below G A (fin s m e) B nan N g F u v w = elim v [ ]
add_below G A (fin s m e) B (inf _) N g F u v w = elim v [ ]
add_below G A (fin s m e) B (fin t n d) N g F u v w =
    let a = m * up e * down d in
    let b = n * up d * down e in
    let c = down e * down d in
    let C : 0 < c = mul-pos (down_pos e) (down_pos d) in
    let r : (a + b) * G ≤ N * c =
    le_trans (le_of_eq (add-mul a b G))
    (le_trans (add-le-add (cross_le (m * up e) (down e) (down d) A G u) (le_trans (cross_le (n * up d) (down d) (down e) B G v) (le_of_eq (ap (λ (z : ℕ). B * z) (mul_comm (down d) (down e))))))
    (le_trans (le_of_eq (sym (add-mul A B c))) (mul-le-mul_right c w))) in
    by_cond (Within G N) (beq s t) (round binary64 s (a + b) c) (cond (ltb a b) (round binary64 t (b - a) c) (round binary64 (s && ltb b a) (a - b) c))
    (λ _. round_below s G N (a + b) c C g F r)
    (λ _. by_cond (Within G N) (ltb a b) (round binary64 t (b - a) c) (round binary64 (s && ltb b a) (a - b) c)
    (λ _. round_below t G N (b - a) c C g F (le_trans (mul-le-mul_right G (less a b)) r))
    (λ _. round_below (s && ltb b a) G N (a - b) c C g F (le_trans (mul-le-mul_right G (less' a b)) r)))
  where
    less : (a b : ℕ) → b - a ≤ a + b
    less a b = omega arith

    less' : (a b : ℕ) → a - b ≤ a + b
    less' a b = omega arith

pub add_within : (g A : ℕ) (x : Float) (B : ℕ) (y : Float) (N : ℕ) → Within (2 ^ g) A x → Within (2 ^ g) B y → g ≤ 1074 → N < 2 ^ 53 → A + B ≤ N → Within (2 ^ g) N (add binary64 x y)
add_within g A x B y N u v K M w = add_below (2 ^ g) A x B y N (pow_pos g) (there g N K M) u v w

pub sub_within : (g A : ℕ) (x : Float) (B : ℕ) (y : Float) (N : ℕ) → Within (2 ^ g) A x → Within (2 ^ g) B y → g ≤ 1074 → N < 2 ^ 53 → A + B ≤ N → Within (2 ^ g) N (sub binary64 x y)
unfolding sub
sub_within g A x B y N u v K M w = add_within g A x B (neg y) N u (neg_within (2 ^ g) B y v) K M w

pub within_finite : (G N : ℕ) (x : Float) → Within G N x → T (finite x)
within_finite G N nan h = elim h [ ]
within_finite G N (inf _) h = elim h [ ]
within_finite G N (fin s m e) h = tt

pub rescaled : (G N H K : ℕ) (x : Float) → 0 < G → Within G N x → N * H ≤ K * G → Within H K x
rescaled G N H K nan g u v = elim u [ ]
rescaled G N H K (inf _) g u v = elim u [ ]
rescaled G N H K (fin s m e) g u v = through (m * up e) N K (down e) G H g u v

-- ---- the same by powers of two, of which every one up to 2^1023 is a value
abbrev pub Under : ℕ → Float → Type 0
Under i x = Within 1 (2 ^ i) x

pub wider : (i j : ℕ) (x : Float) → i ≤ j → Under i x → Under j x
wider i j nan h u = elim u [ ]
wider i j (inf _) h u = elim u [ ]
wider i j (fin s m e) h u = le_trans u (mul-le-mul_right (down e) (pow_mono h))

pub mul_under : (i j : ℕ) (x y : Float) → i + j ≤ 1023 → Under i x → Under j y → Under (i + j) (mul binary64 x y)
mul_under i j x y h u v = mul_below 1 (2 ^ i) x 1 (2 ^ j) y 1 (2 ^ (i + j)) (lit< tt) (lit< tt) (power (i + j) h) u v (rw (mul-one, mul-one, pow-add) (le_refl (2 ^ i * 2 ^ j)))

pub add_under : (i : ℕ) (x y : Float) → i < 1023 → Under i x → Under i y → Under (suc i) (add binary64 x y)
add_under i x y h u v = add_below 1 (2 ^ i) x (2 ^ i) y (2 ^ suc i) (lit< tt) (power (suc i) h) u v (omega (arith, pow-succ' 2 i))

pub sub_under : (i : ℕ) (x y : Float) → i < 1023 → Under i x → Under i y → Under (suc i) (sub binary64 x y)
unfolding sub
sub_under i x y h u v = add_under i x (neg y) h u (neg_within 1 (2 ^ i) y v)

-- ---- a value that two tests leave between two bounded ones
nor : (a b : Bool) → a || b ≡ false → T (not a)
nor true b h = clash h
nor false b h = tt

-- -a is not below ±b, and ±b is not below a: a is at most b
not_below : (s : Bool) (a b : ℕ) → T (not (below true a s b)) → a ≤ b
not_below true a b t = nltb→le b a t
not_below false a b t = at a b (nltb→le 0 (a + b) t)
  where
    at : (a b : ℕ) → a + b ≤ 0 → a ≤ b
    at a b h = omega arith

not_above : (s : Bool) (a b : ℕ) → T (not (below s b false a)) → a ≤ b
not_above true a b t = at a b (nltb→le 0 (b + a) t)
  where
    at : (a b : ℕ) → b + a ≤ 0 → a ≤ b
    at a b h = omega arith
not_above false a b t = nltb→le b a t

pub between : (lo x hi : Float) (G N : ℕ) → Within G N lo → Within G N hi → is_nan x ≡ false → le x lo ≡ false → le hi x ≡ false → Within G N x
unfolding le lt is_nan
between nan _ hi G N u v a b c = elim u [ ]
between (inf _) _ hi G N u v a b c = elim u [ ]
between (fin s k d) nan nan G N u v a b c = elim v [ ]
between (fin s k d) nan (inf _) G N u v a b c = elim v [ ]
between (fin s k d) (inf false) nan G N u v a b c = elim v [ ]
between (fin s k d) (inf false) (inf _) G N u v a b c = elim v [ ]
between (fin s k d) (inf true) nan G N u v a b c = elim v [ ]
between (fin s k d) (inf true) (inf _) G N u v a b c = elim v [ ]
between (fin s k d) (fin false m e) nan G N u v a b c = elim v [ ]
between (fin s k d) (fin false m e) (inf _) G N u v a b c = elim v [ ]
between (fin s k d) (fin true m e) nan G N u v a b c = elim v [ ]
between (fin s k d) (fin true m e) (inf _) G N u v a b c = elim v [ ]
between (fin s k d) nan (fin t n f) G N u v a b c = clash a
between (fin s k d) (inf true) (fin t n f) G N u v a b c = clash b
between (fin s k d) (inf false) (fin t n f) G N u v a b c = clash c
between (fin s k d) (fin true m e) (fin t n f) G N u v a b c =
    through (m * up e) (k * up d) N (down e) (down d) G (down_pos d) (not_below s (m * up e * down d) (k * up d * down e) (nor (lt (fin true m e) (fin s k d)) (eq (fin true m e) (fin s k d)) b)) u
between (fin s k d) (fin false m e) (fin t n f) G N u v a b c =
    through (m * up e) (n * up f) N (down e) (down f) G (down_pos f) (not_above t (m * up e * down f) (n * up f * down e) (nor (lt (fin t n f) (fin false m e)) (eq (fin t n f) (fin false m e)) c)) v

-- ---- a value cut to a whole number
signed_le : (s : Bool) (q n a b : ℕ) → q ≤ n → mag (cond s (neg_ℤ (pos (min q a))) (pos (min q b))) ≤ n
signed_le true q n a b h = neg_le (min q a) n (cut_le q n a h)
  where
    cut_le : (q n a : ℕ) → q ≤ n → min q a ≤ n
    cut_le q n a h = omega arith

    neg_le : (r n : ℕ) → r ≤ n → mag (neg_ℤ (pos r)) ≤ n
    neg_le zero n h = h
    neg_le (suc r) n h = omega arith
signed_le false q n a b h = omega arith

pub cut_near : (v : Float) (n : ℕ) → Within 1 n v → mag (to_signed 63 v) ≤ n
unfolding to_signed
cut_near nan n w = elim w [ ]
cut_near (inf _) n w = elim w [ ]
cut_near (fin s m e) n w = signed_le s (m * up e / down e) n (2 ^ 63) (2 ^ 63 - 1) (div-le_of_le-mul (down e) (le_trans (le_of_eq (sym (mul-one (m * up e)))) (le_trans w (le_of_eq (mul_comm n (down e))))))

or_l : (a b : Bool) → T a → T (a || b)
or_l true b t = tt
or_l false b t = absurd t

-- n is below 2 ^ 63, and so what is at most n in size lies between -2 ^ 63 and 2 ^ 63
far : (m n d : ℕ) → 0 < d → m * 1 ≤ n * d → n < 2 ^ 63 → m * 1 < 1 * 2 ^ 63 * d
far m n d p h k = lt_of_le_of_lt h (lt_of_lt_of_le (grow (n * d) d (suc n * d) p (suc-mul n d)) (mul-le-mul_right d k))
  where
    grow : (a d b : ℕ) → 0 < d → b ≡ a + d → a < b
    grow a d b p h = omega arith

some : (d b : ℕ) → 0 < d → 0 < 1 * 2 ^ 63 * d + b
some d b h = omega arith

pub cut_above : (v : Float) (n : ℕ) → n < 2 ^ 63 → Within 1 n v → T (le (fin true 1 (pos 63)) v)
unfolding le lt
cut_above nan n k w = elim w [ ]
cut_above (inf _) n k w = elim w [ ]
cut_above (fin true m e) n k w = or_l (ltb (m * up e * 1) (1 * 2 ^ 63 * down e)) (eq (fin true 1 (pos 63)) (fin true m e)) (lt→ltb (m * up e * 1) (1 * 2 ^ 63 * down e) (far (m * up e) n (down e) (down_pos e) w k))
cut_above (fin false m e) n k w = or_l (ltb 0 (1 * 2 ^ 63 * down e + m * up e * 1)) (eq (fin true 1 (pos 63)) (fin false m e)) (lt→ltb 0 (1 * 2 ^ 63 * down e + m * up e * 1) (some (down e) (m * up e * 1) (down_pos e)))

pub cut_below : (v : Float) (n : ℕ) → n < 2 ^ 63 → Within 1 n v → T (lt v (fin false 1 (pos 63)))
unfolding lt
cut_below nan n k w = elim w [ ]
cut_below (inf _) n k w = elim w [ ]
cut_below (fin true m e) n k w = lt→ltb 0 (m * up e * 1 + 1 * 2 ^ 63 * down e) (subst (λ (x : ℕ). 0 < x) (add_comm (1 * 2 ^ 63 * down e) (m * up e * 1)) (some (down e) (m * up e * 1) (down_pos e)))
cut_below (fin false m e) n k w = lt→ltb (m * up e * 1) (1 * 2 ^ 63 * down e) (far (m * up e) n (down e) (down_pos e) w k)
