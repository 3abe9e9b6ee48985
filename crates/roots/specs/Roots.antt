-- Roots of whole numbers: as rules that compute, of which sqrt's rule is made, and told by squares, as the inner steps promise them to each other. Definitions only.
use Rattle.std.specs.Prelude.{◌≡◌, Bool, true, cond, ◌&&◌, List, [], ◌∷◌, ℕ, zero, suc, ◌+◌, ◌*◌, ◌/◌, ◌^◌, ◌<◌, ◌≤◌, leb, ltb}

-- r, or the next whole number where its square is at most n
abbrev pub lift : ℕ → ℕ → ℕ
lift n r = cond (leb ((r + 1) * (r + 1)) n) (r + 1) r

-- the largest whole number whose square is at most n, for an n of at most 2·k binary digits: one digit of the root for two of n
unfoldable pub floor_root : ℕ → ℕ → ℕ
floor_root zero n = 0
floor_root (suc k) n = lift n (2 * floor_root k (n / 4))

-- r or r + 1, whichever is nearer to √n: r + 1/2 squared is r·r + r + 1/4, so √n is never half way
abbrev pub nearer : ℕ → ℕ → ℕ
nearer n r = cond (leb n (r * r + r)) r (r + 1)

-- the whole number nearest to √(m·2^52) for an m of 53 or 54 binary digits, and 0 for any other m
unfoldable pub rounded_root_lem : ℕ → ℕ
rounded_root_lem m = cond (leb (2 ^ 52) m && ltb m (2 ^ 54)) (nearer (m * 2 ^ 52) (floor_root 53 (m * 2 ^ 52))) 0

-- r is the largest whole number whose square is at most n
pub record Largest (n r : ℕ) : Type 0 where
  pub under : r * r ≤ n
  pub over : n < (r + 1) * (r + 1)

-- document 02, #103, as a test: 'The entry for i, from 256 to 1,023, is the largest e with e·e at most 65,536·i.'
abbrev pub starts_at : ℕ → ℕ → Bool
starts_at i e = leb (e * e) (65536 * i) && ltb (65536 * i) ((e + 1) * (e + 1))

-- '.. over the whole table', of a table whose first entry is for i
unfoldable pub starts_from : ℕ → List ℕ → Bool
starts_from i [] = true
starts_from i (e ∷ es) = starts_at i e && starts_from (suc i) es

-- r is the root of n rounded down, and d what is left
pub record Floor (n r d : ℕ) : Type 0 where
  pub whole : r * r + d ≡ n
  pub rest : d ≤ 2 * r

-- what keeps the numbers of `refine` within a word, and its quotient near enough that the root is at most one too large
pub record Refinable (s d hi lo b : ℕ) : Type 0 where
  pub some : 0 < s
  pub first : hi < b
  pub second : lo < b
  pub root : s * b < 2 ^ 54
  pub rest : d * b < 2 ^ 55
  pub near : (d * b + hi) / (s * 2) * ((d * b + hi) / (s * 2)) ≤ 2 * (s * b)

-- r is the whole number nearest to the root of n
pub record Rounded (n r : ℕ) : Type 0 where
  pub under : n ≤ r * r + r
  pub over : r * r < n + r

-- r is the whole number nearest to √(m·2^52), and has 53 digits
pub record Significand (m r : ℕ) : Type 0 where
  pub nearest : Rounded (m * 2 ^ 52) r
  pub low : 2 ^ 52 ≤ r
  pub high : r < 2 ^ 53
