-- What is at least so large stays so, by the same argument as `Bounds`: N / G is a value and rounding keeps the order. An infinity is as large as anything,
-- so that no law asks whether a result overflowed. With it, what an operation makes of the signs.
use Rattle.std.proofs.Common.{◌≡◌, ℕ, zero, suc, ◌+◌, ◌-◌, ◌*◌, ◌^◌, ◌<◌, ◌≤◌, Bool, true, false, cond, not, ◌&&◌, T, eqb, ltb, ℤ, negsuc, sym, refl, ap, ◌∙◌, subst, zero-le, le_trans, le_of_eq, lt_of_lt_of_le, le-add_right, lt_irrefl, mul-le-mul_right, mul_assoc, mul_comm, add-mul, mul-le-mul, add_comm, mul-pos, one-mul, zero-mul, mul-one, mul_right_comm, not-le_of_lt, le_of_mul-le-mul_right, mul_left_comm, le-add_left, arith, lit<, lit≤, eqb→eq, ltb→lt, pow_pos}
use mathlib.Core.Bool.{beq}
use native.Mathlib.Nat.{mul-sub}
use lib.Dec.{not_T}
use lib.Ieee.{Float, nan, inf, fin, binary64, up, down, unlike, odd, units, round, sum, add, sub, neg, mul, div, le, lt, is_nan}
use lib.Ieee.Bits.{is_false}
use lib.Ieee.Exact.{HasValue}
use lib.Ieee.Fits.{round_is, up_pos, down_pos}
use lib.Ieee.Order.{round_mono, le_of_values}
use lib.Ieee.Positive.{through, first_pos}
use Rattle.roots.proofs.Squares.{by_cond}
use Rattle.kernels.specs.Numbers.{pow2, nought, one, finite, clear}
use Rattle.kernels.specs.Inner.{Within, Low}
use Rattle.kernels.proofs.Patterns.{number_above}
use Rattle.kernels.proofs.Bounds.{clash, size_of, round_size, or_le, neg_within, Value, there, prod_le, cross_le, round_below}

-- ---- a rounded fraction: its size, and its sign
-- x is at least N / G in size, and y is no smaller
pub le_low : (x y : Float) (G N : ℕ) → Low G N x → T (le (size_of x) (size_of y)) → Low G N y
unfolding le
le_low nan y G N h l = elim h [ ]
le_low (inf s) nan G N h l = absurd l
le_low (inf s) (inf t) G N h l = tt
le_low (inf s) (fin t n d) G N h l = absurd l
le_low (fin s m e) nan G N h l = absurd l
le_low (fin s m e) (inf t) G N h l = tt
le_low (fin s m e) (fin t n d) G N h l = through N (m * up e) (n * up d) G (down e) (down d) (down_pos e) h (or_le (m * up e * down d) (n * up d * down e) l)

pub lower : (G N H K : ℕ) (x : Float) → 0 < G → Low G N x → K * G ≤ N * H → Low H K x
lower G N H K nan g u v = elim u [ ]
lower G N H K (inf s) g u v = tt
lower G N H K (fin s m e) g u v = through K N (m * up e) H G (down e) g v u

-- what rounds N / G is no less than it: where N / G is a value, and from 2^1024 on
abbrev pub Floor : ℕ → ℕ → Type 0
Floor G N = Low G N (round binary64 false N G)

pub round_low : (s : Bool) (G N a c : ℕ) → 0 < c → 0 < G → Floor G N → N * c ≤ a * G → Low G N (round binary64 s a c)
round_low s G N a c C g v k =
    le_low (round binary64 false N G) (round binary64 s a c) G N v (rw (round_size false N G, round_size s a c) (round_mono binary64 N G a c g C k))

pub value_floor : (G N : ℕ) → Value G N → Floor G N
value_floor G N = go (round binary64 false N G)
  where
    go : (x : Float) → HasValue x false N G → Low G N x
    go nan h = elim h [ ]
    go (inf _) h = elim h [ ]
    go (fin s m e) h = le_of_eq (sym h.1)

pub floor : (g N : ℕ) → g ≤ 1074 → N < 2 ^ 53 → Floor (2 ^ g) N
floor g N h k = value_floor (2 ^ g) N (there g N h k)

over_is : round binary64 false (2 ^ 1024) 1 ≡ inf false
unfolding round
over_is = refl

pub over_floor : (G N : ℕ) → 0 < G → 2 ^ 1024 * G ≤ N → Floor G N
unfolding le
over_floor G N g h = go (round binary64 false N G) (subst (λ (z : Float). T (le z (round binary64 false N G))) over_is (round_mono binary64 (2 ^ 1024) 1 N G (lit< tt) g (rw mul-one h)))
  where
    go : (x : Float) → T (le (inf false) x) → Low G N x
    go nan l = absurd l
    go (inf s) l = tt
    go (fin s m e) l = absurd l

-- a number of the sign s
abbrev pub Turned : Bool → Float → Type 0
Turned s nan = ⊥
Turned s (inf t) = t ≡ s
Turned s (fin t m e) = t ≡ s

units_turned : (s : Bool) (q k : ℕ) → Turned s (units binary64 s q k)
unfolding units odd
units_turned s q k = go (ltb (q * 2 ^ k) (2 ^ 2098)) q
  where
    go : (b : Bool) (q : ℕ) → Turned s (cond b (odd 54 s q k 1074) (inf s))
    go true zero = refl
    go true (suc q) = refl
    go false q = refl

pub round_turned : (s : Bool) (a c : ℕ) → Turned s (round binary64 s a c)
round_turned s a c = subst (Turned s) (sym (round_is binary64 s a c)) (units_turned s _ _)

round_number : (s : Bool) (a c : ℕ) → is_nan (round binary64 s a c) ≡ false
unfolding is_nan
round_number s a c = go (round binary64 s a c) (round_turned s a c)
  where
    go : (x : Float) → Turned s x → is_nan x ≡ false
    go nan p = elim p [ ]
    go (inf t) p = refl
    go (fin t m e) p = refl

pub round_clear : (a c : ℕ) → T (clear (round binary64 false a c))
round_clear a c = go (round binary64 false a c) (round_turned false a c)
  where
    go : (x : Float) → Turned false x → T (clear x)
    go nan e = elim e [ ]
    go (inf true) e = clash e
    go (inf false) e = tt
    go (fin true m d) e = clash e
    go (fin false m d) e = tt

pub clear_number : (x : Float) → T (clear x) → is_nan x ≡ false
unfolding is_nan
clear_number nan p = elim p [ ]
clear_number (inf s) p = refl
clear_number (fin s m e) p = refl

-- at least 0
pub clear_le : (x : Float) → T (clear x) → T (le nought x)
unfolding le
clear_le nan p = elim p [ ]
clear_le (inf true) p = elim p [ ]
clear_le (fin true m e) p = elim p [ ]
clear_le (inf false) p = tt
clear_le (fin false m e) p = le_of_values nought (fin false m e) 0 1 (m * up e) (down e) (lit< tt) (down_pos e) (refl, refl) (refl, refl) (rw (zero-mul (down e)) zero-le)

-- at least 2^-(g + 1)
pub low_le : (g : ℕ) (x : Float) → T (clear x) → Low (2 ^ suc g) 1 x → T (le (pow2 (negsuc g)) x)
unfolding le
low_le g nan p l = elim p [ ]
low_le g (inf true) p l = elim p [ ]
low_le g (fin true m e) p l = elim p [ ]
low_le g (inf false) p l = tt
low_le g (fin false m e) p l = le_of_values (pow2 (negsuc g)) (fin false m e) 1 (2 ^ suc g) (m * up e) (down e) (pow_pos (suc g)) (down_pos e) (refl, refl) (refl, refl) l

-- from 1/2 to 2
pub record AroundOne (x : Float) : Type 0 where
  pub turn : T (clear x)
  pub least : Low 2 1 x
  pub most : Within 1 2 x

-- what is at least something above 0 is not 0
pub low_pos : (H B : ℕ) (t : Bool) (n : ℕ) (d : ℤ) → 0 < B → Low H B (fin t n d) → 0 < n
low_pos H B t n d b v = first_pos n (up d) (first_pos (n * up d) H (lt_of_lt_of_le (mul-pos b (down_pos d)) v))

not_zero : (n : ℕ) → 0 < n → eqb n 0 ≡ false
not_zero n h = is_false (eqb n 0) (not_T (eqb n 0) (λ t. lt_irrefl 0 (rw (eqb→eq n 0 t) at h)))

pub low_above : (H B : ℕ) (x : Float) → T (clear x) → 0 < B → Low H B x → lt nought x ≡ true
unfolding lt
low_above H B nan p b v = elim p [ ]
low_above H B (inf true) p b v = elim p [ ]
low_above H B (fin true _ d) p b v = elim p [ ]
low_above H B (inf false) p b v = refl
low_above H B (fin false zero d) p b v = absurd (lt_irrefl 0 (low_pos H B false 0 d b v))
low_above H B (fin false (suc n) d) p b v = number_above n d

-- ---- a product
prod_ge : (X Y A B p q G H K N : ℕ) → 0 < G * H → A * p ≤ X * G → B * q ≤ Y * H → N * (G * H) ≤ A * B * K → N * (p * q) ≤ X * Y * K
prod_ge X Y A B p q G H K N Z u v w =
    let l : X * G * (Y * H) * K ≡ X * Y * K * (G * H) = simp (mul_assoc, mul_comm, mul_left_comm) in
    let r : A * B * K * (p * q) ≡ A * p * (B * q) * K = simp (mul_assoc, mul_comm, mul_left_comm) in
    le_of_mul-le-mul_right
    (le_trans (le_of_eq (mul_right_comm N (p * q) (G * H))) (le_trans (mul-le-mul_right (p * q) w) (le_trans (le_of_eq r) (le_trans (mul-le-mul_right K (mul-le-mul u v)) (le_of_eq l)))))
    Z

pub mul_low : (G A : ℕ) (x : Float) (H B : ℕ) (y : Float) (K N : ℕ) → 0 < G * H → 0 < K → Floor K N → Low G A x → Low H B y → 0 < B → T (finite y) → N * (G * H) ≤ A * B * K → Low K N (mul binary64 x y)
unfolding mul
mul_low G A nan H B y K N Z k F u v b f w = elim u [ ]
mul_low G A (inf s) H B nan K N Z k F u v b f w = elim v [ ]
mul_low G A (inf s) H B (inf _) K N Z k F u v b f w = elim f [ ]
mul_low G A (fin s m e) H B nan K N Z k F u v b f w = elim v [ ]
mul_low G A (fin s m e) H B (inf _) K N Z k F u v b f w = elim f [ ]
mul_low G A (inf s) H B (fin t n d) K N Z k F u v b f w = rw (not_zero n (low_pos H B t n d b v)) tt
mul_low G A (fin s m e) H B (fin t n d) K N Z k F u v b f w =
    round_low (unlike s t) K N (m * up e * (n * up d)) (down e * down d) (mul-pos (down_pos e) (down_pos d)) k F
    (prod_ge (m * up e) (n * up d) A B (down e) (down d) G H K N Z u v w)

-- a number above 0 times one with its sign clear, on either side
pub mul_clear : (H B : ℕ) (x y : Float) → T (clear x) → T (finite x) → 0 < B → Low H B x → T (clear y) → T (clear (mul binary64 x y)) × T (clear (mul binary64 y x))
unfolding mul
mul_clear H B nan y p f b u q = elim p [ ]
mul_clear H B (inf _) y p f b u q = elim f [ ]
mul_clear H B (fin false n d) nan p f b u q = elim q [ ]
mul_clear H B (fin false n d) (inf true) p f b u q = elim q [ ]
mul_clear H B (fin false n d) (fin true m e) p f b u q = elim q [ ]
mul_clear H B (fin true n d) y p f b u q = elim p [ ]
mul_clear H B (fin false n d) (inf false) p f b u q = rw (not_zero n (low_pos H B false n d b u)) (tt, tt)
mul_clear H B (fin false n d) (fin false m e) p f b u q = (round_clear (n * up d * (m * up e)) (down d * down e), round_clear (m * up e * (n * up d)) (down e * down d))

pub mul_number : (x y : Float) → T (finite x) → T (finite y) → is_nan (mul binary64 x y) ≡ false
unfolding mul
mul_number nan y f g = elim f [ ]
mul_number (inf _) y f g = elim f [ ]
mul_number (fin s m e) nan f g = elim g [ ]
mul_number (fin s m e) (inf _) f g = elim g [ ]
mul_number (fin s m e) (fin t n d) f g = round_number (unlike s t) (m * up e * (n * up d)) (down e * down d)

-- ---- a sum
cross_ge : (X p q A G : ℕ) → A * p ≤ X * G → A * (p * q) ≤ X * q * G
cross_ge X p q A G h = le_trans (le_of_eq (sym (mul_assoc A p q))) (le_trans (mul-le-mul_right q h) (le_of_eq (mul_right_comm X G q)))

pub add_number : (x y : Float) → T (finite x) → T (finite y) → is_nan (add binary64 x y) ≡ false
unfolding add sum
add_number nan y f g = elim f [ ]
add_number (inf _) y f g = elim f [ ]
add_number (fin s m e) nan f g = elim g [ ]
add_number (fin s m e) (inf _) f g = elim g [ ]
add_number (fin s m e) (fin t n d) f g =
    let a = m * up e * down d in
    let b = n * up d * down e in
    let c = down e * down d in
    let r = round binary64 (s && ltb b a) (a - b) c in
    by_cond (λ (z : Float). is_nan z ≡ false) (beq s t) (round binary64 s (a + b) c) (cond (ltb a b) (round binary64 t (b - a) c) r) (λ _. round_number s (a + b) c)
    (λ _. by_cond (λ (z : Float). is_nan z ≡ false) (ltb a b) (round binary64 t (b - a) c) r (λ _. round_number t (b - a) c) (λ _. round_number (s && ltb b a) (a - b) c))

-- of two of one sign
pub add_same : (s : Bool) (m : ℕ) (e : ℤ) (n : ℕ) (d : ℤ) → add binary64 (fin s m e) (fin s n d) ≡ round binary64 s (m * up e * down d + n * up d * down e) (down e * down d)
unfolding add sum
add_same true m e n d = refl
add_same false m e n d = refl

pub add_both : (s : Bool) (G A : ℕ) (m : ℕ) (e : ℤ) (B : ℕ) (n : ℕ) (d : ℤ) (N : ℕ) → 0 < G → Floor G N → Low G A (fin s m e) → Low G B (fin s n d) → N ≤ A + B
    → Turned s (add binary64 (fin s m e) (fin s n d)) × Low G N (add binary64 (fin s m e) (fin s n d))
add_both s G A m e B n d N g F u v w =
    let a = m * up e * down d in
    let b = n * up d * down e in
    let c = down e * down d in
    let r : N * c ≤ (a + b) * G = omega (
      arith,
      mul-le-mul_right c w,
      add-mul A B c,
      add-mul a b G,
      cross_ge (m * up e) (down e) (down d) A G u,
      rw (mul_comm (down d)) at (cross_ge (n * up d) (down d) (down e) B G v),
    ) in
    rw (add_same s m e n d) (round_turned s (a + b) c, round_low s G N (a + b) c (mul-pos (down_pos e) (down_pos d)) g F r)

-- of two with the sign clear: no less than either, and the same in either order
pub add_more : (G N : ℕ) (x y : Float) → 0 < G → Floor G N → T (clear x) → T (clear y) → Low G N x → T (clear (add binary64 x y)) × Low G N (add binary64 x y)
unfolding add sum
add_more G N nan y g F p q u = elim p [ ]
add_more G N (inf false) nan g F p q u = elim q [ ]
add_more G N (inf false) (inf true) g F p q u = elim q [ ]
add_more G N (inf false) (fin true n d) g F p q u = elim q [ ]
add_more G N (inf true) y g F p q u = elim p [ ]
add_more G N (fin false m e) nan g F p q u = elim q [ ]
add_more G N (fin false m e) (inf true) g F p q u = elim q [ ]
add_more G N (fin false m e) (fin true n d) g F p q u = elim q [ ]
add_more G N (fin true m e) y g F p q u = elim p [ ]
add_more G N (inf false) (inf false) g F p q u = (tt, tt)
add_more G N (inf false) (fin false n d) g F p q u = (tt, tt)
add_more G N (fin false m e) (inf false) g F p q u = (tt, tt)
add_more G N (fin false m e) (fin false n d) g F p q u =
    let a = m * up e * down d in
    let b = n * up d * down e in
    let c = down e * down d in
    (round_clear (a + b) c, round_low false G N (a + b) c (mul-pos (down_pos e) (down_pos d)) g F (le_trans (cross_ge (m * up e) (down e) (down d) N G u) (mul-le-mul_right G (le-add_right a b))))

pub add_swap : (x y : Float) → T (clear x) → T (clear y) → add binary64 x y ≡ add binary64 y x
unfolding add sum
add_swap nan y p q = elim p [ ]
add_swap (inf false) nan p q = elim q [ ]
add_swap (inf false) (inf true) p q = elim q [ ]
add_swap (inf false) (fin true n d) p q = elim q [ ]
add_swap (inf true) y p q = elim p [ ]
add_swap (fin false m e) nan p q = elim q [ ]
add_swap (fin false m e) (inf true) p q = elim q [ ]
add_swap (fin false m e) (fin true n d) p q = elim q [ ]
add_swap (fin true m e) y p q = elim p [ ]
add_swap (inf false) (inf false) p q = refl
add_swap (inf false) (fin false n d) p q = refl
add_swap (fin false m e) (inf false) p q = refl
add_swap (fin false m e) (fin false n d) p q = rw (add_comm (m * up e * down d), mul_comm (down e))

-- y is smaller in size than x, whose sign is clear: a / c and b / c
parted : (G N A B a b c : ℕ) (t : Bool) → 0 < G → 0 < c → Floor G N → A * c ≤ a * G → b * G ≤ B * c → B + N ≤ A → T (clear (sum binary64 false a t b c)) × Low G N (sum binary64 false a t b c)
unfolding sum
parted G N A B a b c t g C F u v w = by_sign t
  where
    room : B * c + N * c ≤ A * c
    room = rw add-mul at (mul-le-mul_right c w)

    rounded : (k : ℕ) → N * c ≤ k * G → T (clear (round binary64 false k c)) × Low G N (round binary64 false k c)
    rounded k h = (round_clear k c, round_low false G N k c C g F h)

    no_more : b ≤ a
    no_more = le_of_mul-le-mul_right (omega (arith, u, v, room)) g

    split : a * G ≡ b * G + (a - b) * G
    split = ap (λ (z : ℕ). z * G) (omega (arith, no_more)) ∙ add-mul b (a - b) G

    by_sign : (t : Bool) → T (clear (sum binary64 false a t b c)) × Low G N (sum binary64 false a t b c)
    by_sign false = rounded (a + b) (omega (arith, u, room, add-mul a b G))
    by_sign true =
        by_cond (λ (z : Float). T (clear z) × Low G N z) (ltb a b) (round binary64 true (b - a) c) (round binary64 false (a - b) c) (λ h. absurd (not-le_of_lt (ltb→lt a b h) no_more))
        (λ _. rounded (a - b) (omega (arith, u, v, room, split)))

pub add_low : (G A : ℕ) (x : Float) (B : ℕ) (y : Float) (N : ℕ) → 0 < G → Floor G N → T (clear x) → Low G A x → Within G B y → B + N ≤ A → T (clear (add binary64 x y)) × Low G N (add binary64 x y)
unfolding add
add_low G A nan B y N g F p u v w = elim p [ ]
add_low G A (inf false) B nan N g F p u v w = elim v [ ]
add_low G A (inf false) B (inf _) N g F p u v w = elim v [ ]
add_low G A (inf true) B y N g F p u v w = elim p [ ]
add_low G A (fin false m e) B nan N g F p u v w = elim v [ ]
add_low G A (fin false m e) B (inf _) N g F p u v w = elim v [ ]
add_low G A (fin true m e) B y N g F p u v w = elim p [ ]
add_low G A (inf false) B (fin t n d) N g F p u v w = (tt, tt)
add_low G A (fin false m e) B (fin t n d) N g F p u v w =
    parted G N A B (m * up e * down d) (n * up d * down e) (down e * down d) t g (mul-pos (down_pos e) (down_pos d)) F (cross_ge (m * up e) (down e) (down d) A G u)
    (rw (mul_comm (down e)) (cross_le (n * up d) (down d) (down e) B G v)) w

pub sub_low : (G A : ℕ) (x : Float) (B : ℕ) (y : Float) (N : ℕ) → 0 < G → Floor G N → T (clear x) → Low G A x → Within G B y → B + N ≤ A → T (clear (sub binary64 x y)) × Low G N (sub binary64 x y)
unfolding sub
sub_low G A x B y N g F p u v w = add_low G A x B (neg y) N g F p u (neg_within G B y v) w

-- ---- a quotient, by what is at least something above 0
pub div_below : (G A : ℕ) (x : Float) (H B : ℕ) (y : Float) (K N : ℕ) → 0 < G * B → 0 < K → Value K N → Within G A x → Low H B y → 0 < B → A * H * K ≤ N * (G * B) → Within K N (div binary64 x y)
unfolding div
div_below G A nan H B y K N Z k F u v b w = elim u [ ]
div_below G A (inf _) H B y K N Z k F u v b w = elim u [ ]
div_below G A (fin s m e) H B nan K N Z k F u v b w = elim v [ ]
div_below G A (fin s m e) H B (inf t) K N Z k F u v b w = simp zero-mul zero-le
div_below G A (fin s m e) H B (fin t n d) K N Z k F u v b w =
    let z = low_pos H B t n d b v in
    rw (not_zero n z)
    (round_below (unlike s t) K N (m * up e * down d) (n * up d * down e) (mul-pos (mul-pos z (up_pos d)) (down_pos e)) k F
    (rw (mul_comm (n * up d)) (prod_le (m * up e) (down d) A H (down e) (n * up d) G B K N Z u (rw (mul_comm (down d), mul_comm H) v) w)))

-- by what is at most B / H
pub div_low : (G A : ℕ) (x : Float) (H B : ℕ) (y : Float) (K N L : ℕ) → 0 < G * B → 0 < K → Floor K N → T (finite x) → Low G A x → Within H B y → 0 < L → Low H L y → N * (G * B) ≤ A * H * K → Low K N (div binary64 x y)
unfolding div
div_low G A nan H B y K N L Z k F f u v b l w = elim f [ ]
div_low G A (inf _) H B y K N L Z k F f u v b l w = elim f [ ]
div_low G A (fin s m e) H B nan K N L Z k F f u v b l w = elim v [ ]
div_low G A (fin s m e) H B (inf _) K N L Z k F f u v b l w = elim v [ ]
div_low G A (fin s m e) H B (fin t n d) K N L Z k F f u v b l w =
    let z = low_pos H L t n d b l in
    rw (not_zero n z)
    (round_low (unlike s t) K N (m * up e * down d) (n * up d * down e) (mul-pos (mul-pos z (up_pos d)) (down_pos e)) k F
    (rw (mul_comm (n * up d)) (prod_ge (m * up e) (down d) A H (down e) (n * up d) G B K N Z u (rw (mul_comm (down d), mul_comm H) v) w)))

pub div_clear : (H B : ℕ) (x y : Float) → T (clear x) → T (finite x) → T (clear y) → 0 < B → Low H B y → T (clear (div binary64 x y))
unfolding div
div_clear H B nan y p f q b v = elim p [ ]
div_clear H B (inf _) y p f q b v = elim f [ ]
div_clear H B (fin false m e) nan p f q b v = elim q [ ]
div_clear H B (fin false m e) (inf true) p f q b v = elim q [ ]
div_clear H B (fin false m e) (fin true n d) p f q b v = elim q [ ]
div_clear H B (fin true m e) y p f q b v = elim p [ ]
div_clear H B (fin false m e) (inf false) p f q b v = tt
div_clear H B (fin false m e) (fin false n d) p f q b v = rw (not_zero n (low_pos H B false n d b v)) (round_clear (m * up e * down d) (n * up d * down e))

-- ---- a difference of two of one sign, a / c and b / c
apart : (G A A' B B' N a b c : ℕ) (s : Bool) → 0 < c → 0 < G → Value G N → A * c ≤ a * G → a * G ≤ A' * c → B * c ≤ b * G → b * G ≤ B' * c → A' ≤ B + N → B' ≤ A + N
    → Within G N (sum binary64 s a (not s) b c)
unfolding sum
apart G A A' B B' N a b c s C g F u u' v v' h k = by_sign s
  where
    more : (X Y P Q : ℕ) → X * G ≤ P * c → Q * c ≤ Y * G → P ≤ Q + N → (X - Y) * G ≤ N * c
    more X Y P Q l r w = omega (arith, rw (mul_comm G, mul_comm G, mul_comm G) at (mul-sub G X Y), l, r, mul-le-mul_right c w, add-mul Q N c)

    differ : (p q : Bool) → Within G N (cond (ltb a b) (round binary64 p (b - a) c) (round binary64 q (a - b) c))
    differ p q = by_cond (Within G N) (ltb a b) (round binary64 p (b - a) c) (round binary64 q (a - b) c) (λ _. round_below p G N (b - a) c C g F (more b a B' A v' u k)) (λ _. round_below q G N (a - b) c C g F (more a b A' B u' v h))

    by_sign : (s : Bool) → Within G N (sum binary64 s a (not s) b c)
    by_sign true = differ false (ltb b a)
    by_sign false = differ true false

pub sub_same : (s : Bool) (G A A' : ℕ) (x : Float) (B B' : ℕ) (y : Float) (N : ℕ) → 0 < G → Value G N → Turned s x → Low G A x → Within G A' x → Turned s y → Low G B y → Within G B' y → A' ≤ B + N → B' ≤ A + N → Within G N (sub binary64 x y)
unfolding sub neg add
sub_same s G A A' nan B B' y N g F t u u' r v v' h k = elim t [ ]
sub_same s G A A' (inf _) B B' y N g F t u u' r v v' h k = elim u' [ ]
sub_same s G A A' (fin p m e) B B' nan N g F t u u' r v v' h k = elim r [ ]
sub_same s G A A' (fin p m e) B B' (inf _) N g F t u u' r v v' h k = elim v' [ ]
sub_same s G A A' (fin p m e) B B' (fin q n d) N g F t u u' r v v' h k =
    rw (t, r)
    (apart G A A' B B' N (m * up e * down d) (n * up d * down e) (down e * down d) s (mul-pos (down_pos e) (down_pos d)) g F (cross_ge (m * up e) (down e) (down d) A G u) (cross_le (m * up e) (down e) (down d) A' G u')
    (rw (mul_comm (down e)) (cross_ge (n * up d) (down d) (down e) B G v)) (rw (mul_comm (down e)) (cross_le (n * up d) (down d) (down e) B' G v')) h k)

-- of two with the sign clear: no larger than the larger of them
pub sub_clear_below : (G N : ℕ) (x y : Float) → 0 < G → Value G N → T (clear x) → T (clear y) → Within G N x → Within G N y → Within G N (sub binary64 x y)
sub_clear_below G N nan y g F p q u v = elim p [ ]
sub_clear_below G N (inf _) y g F p q u v = elim u [ ]
sub_clear_below G N (fin false m e) nan g F p q u v = elim q [ ]
sub_clear_below G N (fin false m e) (inf _) g F p q u v = elim v [ ]
sub_clear_below G N (fin false m e) (fin true n d) g F p q u v = elim q [ ]
sub_clear_below G N (fin true m e) y g F p q u v = elim p [ ]
sub_clear_below G N (fin false m e) (fin false n d) g F p q u v = sub_same false G 0 N (fin false m e) 0 N (fin false n d) N g F refl (simp zero-mul zero-le) u refl (simp zero-mul zero-le) v (le-add_left N 0) (le-add_left N 0)

-- a part of what is no smaller is from 0 to 1
pub share : (m : ℕ) (e : ℤ) (s : Float) (H B : ℕ) → T (clear s) → Low (down e) (m * up e) s → 0 < B → Low H B s → T (clear (div binary64 (fin false m e) s)) × Within 1 1 (div binary64 (fin false m e) s)
unfolding div
share m e nan H B p l b v = elim p [ ]
share m e (inf true) H B p l b v = elim p [ ]
share m e (fin true k c) H B p l b v = elim p [ ]
share m e (inf false) H B p l b v = (tt, lit≤ tt)
share m e (fin false k c) H B p l b v =
    let z = low_pos H B false k c b v in
    let n = m * up e * down c in
    let d = k * up c * down e in
    rw (not_zero k z) (round_clear n d, round_below false 1 1 n d (mul-pos (mul-pos z (up_pos c)) (down_pos e)) (lit< tt) (there 0 1 (lit≤ tt) (lit< tt)) (rw (mul-one, one-mul) l))

-- from 0 to 1, by the tests and back
pub at_most_one : (x : Float) → T (clear x) → Within 1 1 x → T (le x one)
at_most_one nan p h = elim p [ ]
at_most_one (inf _) p h = elim h [ ]
at_most_one (fin true m e) p h = elim p [ ]
at_most_one (fin false m e) p h = le_of_values (fin false m e) one (m * up e) (down e) 1 1 (down_pos e) (lit< tt) (refl, refl) (refl, refl) h

pub within_one : (x : Float) → T (clear x) → T (le x one) → Within 1 1 x
unfolding le
within_one nan p l = elim p [ ]
within_one (inf true) p l = elim p [ ]
within_one (fin true m e) p l = elim p [ ]
within_one (inf false) p l = absurd l
within_one (fin false m e) p l = omega (arith, or_le (m * up e * 1) (1 * 2 ^ 0 * down e) l)
