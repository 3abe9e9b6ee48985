-- A table to start roots from: what one test, computed over the whole table, tells of any entry of it. Where the first entry is for i, entry k is for i + k.
use mathlib.Core.Path.{◌≡◌}
use mathlib.Core.List.{List, [], ◌∷◌}
use Prim.Native.Nat.{ℕ, zero, suc, ◌+◌, ◌-◌, ◌*◌, ◌^◌, ◌≤◌, ◌<◌}
use native.Mathlib.Nat.{lt_trans}
use native.Mathlib.Omega.{arith}
use lib.Dec.{T, leb, ltb, leb→le, ltb→lt, lit<}
use lib.ListN.{length, get_or}
use mir.Facts.{and_yes}
use Rattle.roots.specs.Roots.{Largest, starts_at, starts_from}
use Rattle.roots.proofs.Roots.{root_under}

largest : (i e : ℕ) → T (starts_at i e) → Largest (65536 * i) e
largest i e t =
    let b = and_yes (leb (e * e) (65536 * i)) (ltb (65536 * i) ((e + 1) * (e + 1))) t in
    record { under = leb→le (e * e) (65536 * i) b.0; over = ltb→lt (65536 * i) ((e + 1) * (e + 1)) b.1 }

entry : (i k n : ℕ) (es : List ℕ) → T (starts_from i es) → k < length es → i + k ≡ n → Largest (65536 * n) (get_or es k 0)
unfolding starts_from
entry i k n [] t h e = absurd (omega arith)
entry i zero n (x ∷ es) t h e = let z : i ≡ n = omega arith in rw z at (largest i x (and_yes (starts_at i x) (starts_from (suc i) es) t).0)
entry i (suc k) n (x ∷ es) t h e = entry (suc i) k n es (and_yes (starts_at i x) (starts_from (suc i) es) t).1 (omega arith) (omega arith)

-- document 02, #103: where a table of 768 entries passes the test, the entry for i is the largest number whose square is at most 65,536·i ..
module _ (es : List ℕ) (t : T (starts_from 256 es)) (s : length es ≡ 768) (i : ℕ) (l : 256 ≤ i) (h : i < 1024) where
  pub every_entry : Largest (65536 * i) (get_or es (i - 256) 0)
  every_entry = entry 256 (i - 256) i es t (omega arith) (omega arith)

  -- .. and a word holds it
  pub entry_small : get_or es (i - 256) 0 < 2 ^ 64
  entry_small = lt_trans (root_under 8192 every_entry (omega arith)) (lit< tt)
