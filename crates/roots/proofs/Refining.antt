-- A root with one more digit in any base b, by one division, as by hand: s is the root of the leading digits, t what is left and the next digit,
-- and the root's next digit is t / (2 * s), or one less where its square is more than is left then.
use mathlib.Core.Path.{◌≡◌, refl, ap}
use Prim.Native.Nat.{ℕ, ◌+◌, ◌-◌, ◌*◌, ◌/◌, ◌%◌, ◌^◌, ◌≤◌, ◌<◌}
use native.Mathlib.Nat.{le_trans, le_of_eq, le_of_lt, mul_comm, mul_assoc, mul_left_comm, mul-add, add-mul, suc-mul, mul-le-mul, mul-le-mul_right, mod-lt, div-add-mod', div-lt_iff_lt-mul, div-le_self, le-mul_of_pos_right, sub-add_cancel}
use native.Mathlib.Omega.{arith}
use Rattle.roots.specs.Roots.{Floor, Largest, Refinable}
use Rattle.roots.proofs.Squares.{next}
use Rattle.roots.proofs.Roots.{square_lt, root_from, root_under, largest_of}

expand : (s b d hi lo q u : ℕ) → q * (s * 2) + u ≡ d * b + hi → (s * b + q) * (s * b + q) + (u * b + lo) ≡ (s * s + d) * (b * b) + hi * b + lo + q * q
expand s b d hi lo q u e =
    simp (mul-add, add-mul, mul_assoc, mul_comm, mul_left_comm) (omega (arith, simp (add-mul, mul_assoc, mul_comm, mul_left_comm) at (ap (λ (z : ℕ). z * b) e)))

module _ (s d hi lo b : ℕ) (h : Refinable s d hi lo b) where
  abbrev t : ℕ
  t = d * b + hi

  abbrev q : ℕ
  q = t / (s * 2)

  abbrev v : ℕ
  v = t % (s * 2) * b + lo

  abbrev r : ℕ
  r = s * b + q

  abbrev n : ℕ
  n = (s * s + d) * (b * b) + hi * b + lo

  -- what is left after the division, and one more digit, are at most twice the root's leading digits
  pub left : t % (s * 2) * b + b ≤ 2 * (s * b)
  left =
      let p : 0 < s * 2 = omega (arith, h.some) in
      let e : s * 2 * b ≡ 2 * (s * b) = simp (mul_assoc, mul_comm) refl in
      omega (arith, suc-mul (t % (s * 2)) b, mul-le-mul_right b (mod-lt t p))

  -- what keeps each number within a word
  pub record Small : Type 0 where
    pub root : s ≤ s * b
    pub base : b ≤ s * b
    pub quotient : q ≤ t
    pub left : t % (s * 2) * b + b ≤ 2 * (s * b)

  pub small : Small
  small = record {
    root = le-mul_of_pos_right s (omega arith);
    base = le_trans (le-mul_of_pos_right b h.some) (le_of_eq (mul_comm b s));
    quotient = div-le_self t (s * 2);
    left = left;
  }

  whole : r * r + v ≡ n + q * q
  whole = expand s b d hi lo q (t % (s * 2)) (div-add-mod' t (s * 2))

  pub kept : q * q ≤ v → Floor n r (v - q * q)
  kept k = record { whole = omega (arith, whole); rest = omega (arith, left) }

  -- where the quotient is too large, it is so by one
  pub enough : v < q * q → (1 ≤ r) × (q * q + 1 ≤ v + r * 2)
  enough k = omega (arith, square_lt 0 q (omega arith))

  pub lowered : v < q * q → Floor n (r - 1) (v + r * 2 - 1 - q * q)
  lowered k =
      let e : r * r ≡ (r - 1) * (r - 1) + 2 * (r - 1) + 1 = rw (sub-add_cancel (enough k).0) at (next (r - 1)) in
      record { whole = omega (arith, whole, enough k); rest = omega (arith, enough k) }

-- ---- where such a step may be taken
by_quotient : (s d hi lo b k : ℕ) → 0 < s → hi < b → lo < b → s * b < 2 ^ 54 → d * b < 2 ^ 55 → d * b + hi < (k + 1) * (s * 2) → k * k ≤ 2 * (s * b) → Refinable s d hi lo b
by_quotient s d hi lo b k p h l m e f g =
    let q : (d * b + hi) / (s * 2) ≤ k = omega (arith, (div-lt_iff_lt-mul {k = s * 2} {x = d * b + hi} {y = k + 1} (omega arith)).1 f) in
    record { some = p; first = h; second = l; root = m; rest = e; near = le_trans (mul-le-mul q q) g }

-- from a root rounded down, between k and 2·k, by a base of no more than 2·k
pub by_root : (k : ℕ) {n : ℕ} (s d hi lo b : ℕ) → Floor n s d → k * k ≤ n → n < 2 * k * (2 * k) → b ≤ 2 * k → k * b ≤ 2 ^ 52 → hi < b → lo < b → Refinable s d hi lo b
by_root k {n} s d hi lo b f g o u m h l =
    let c = largest_of n s d f in
    let r : k ≤ s = root_from k c g in
    let v : s * b ≤ 2 * k * b = mul-le-mul_right b (le_of_lt (root_under (2 * k) c o)) in
    let w : s * b < 2 ^ 54 = omega (arith, mul_assoc 2 k b) in
    let x : b * b ≤ 2 * s * b = mul-le-mul_right b (omega arith) in
    let y : d * b ≤ 2 * s * b = mul-le-mul_right b f.rest in
    let e : 2 * s * b ≡ 2 * (s * b) = mul_assoc 2 s b in
    by_quotient s d hi lo b b (omega arith) h l w (omega arith) (simp (add-mul, mul_comm, mul_left_comm) (omega arith)) (omega arith)

-- from the first root, of m's leading 10 digits and zeros: it leaves more, and the base is 2
pub by_start : (m e hi lo : ℕ) → Largest (65536 * (m / 2 ^ 44)) e → 2 ^ 52 ≤ m → m < 2 ^ 54 → hi < 2 → lo < 2 → Refinable e (m / 2 ^ 28 - e * e) hi lo 2
by_start m e hi lo g h k x y =
    let u : 4096 ≤ e = root_from 4096 g (omega arith) in
    let v : e < 8192 = root_under 8192 g (omega arith) in
    by_quotient e (m / 2 ^ 28 - e * e) hi lo 2 63 (omega arith) x y (omega arith) (omega (arith, g.over, next e)) (omega (arith, g.over, next e)) (omega arith)
