-- The tails, from the last element on.
use Prim.Native.Nat.{ℕ, suc, ◌-◌, ◌<◌, ◌≤◌}
use native.Mathlib.Nat.{le_refl, le_of_lt, eq-or-lt_of_le}
use native.Mathlib.Omega.{arith}
use mathlib.Core.Path.{◌≡◌, sym, ◌∙◌}
use mathlib.Core.Logic.{⊎_elim}
use mathlib.Core.List.{List}
use lib.ListN.{length, get_or, set, drop_of_length-le, length-set}
use lib.Seq.{drop-cons, get_or-set_same, get_or-set_other}
use lib.Ieee.{Float, nan}
use Rattle.kernels.specs.Numbers.{◌⊕◌}
use Rattle.dirichlet.specs.FromBeta.{tail_sum, tail_after}

-- ---- the tail after an element, out of the tail after the next
pub tail_next : (xs : List Float) (i : ℕ) → suc (suc i) < length xs → tail_after xs i ≡ tail_after xs (suc i) ⊕ get_or xs (suc i) nan
unfolding tail_sum
tail_next xs i l = rw (drop-cons xs (suc i) nan (le_of_lt l), drop-cons xs (suc (suc i)) nan)

pub tail_last : (xs : List Float) (i : ℕ) → suc (suc i) ≡ length xs → tail_after xs i ≡ get_or xs (suc i) nan
unfolding tail_sum
tail_last xs i e = rw (drop-cons xs (suc i) nan (omega arith), drop_of_length-le xs {i = suc (suc i)} (omega arith))

-- ---- the cells from i on have their tails, where cell i is given its and those past it had theirs
pub tails_from : (alpha out : List Float) {i : ℕ} {v : Float} → i < length out → v ≡ tail_after alpha i → ((k : ℕ) → i < k → suc k < length alpha → get_or out k nan ≡ tail_after alpha k)
    → (k : ℕ) → i ≤ k → suc k < length alpha → get_or (set out i v) k nan ≡ tail_after alpha k
tails_from alpha out {i} {v} l e h k m n =
    ⊎_elim {C = get_or (set out i v) k nan ≡ tail_after alpha k} (λ z. rw (← z) (get_or-set_same out i v nan l ∙ e))
    (λ z. get_or-set_other out i k v nan (λ y. omega arith) ∙ h k z n) (eq-or-lt_of_le m)

-- ---- the tails after the elements from i on stand in their cells
pub record Tailing (alpha : List Float) (i : ℕ) (out : List Float) : Type 0 where
  pub within : suc i < length alpha
  pub long : length out ≡ length alpha
  pub so_far : (k : ℕ) → i ≤ k → suc k < length alpha → get_or out k nan ≡ tail_after alpha k

module _ {alpha : List Float} (out : List Float) where
  pub tailing_starts : length out ≡ length alpha → 2 ≤ length alpha → Tailing alpha (length alpha - 2) (set out (length alpha - 2) (get_or alpha (length alpha - 1) nan))
  tailing_starts e l = go (length alpha - 2) (omega arith)
    where
      go : (i : ℕ) → suc (suc i) ≡ length alpha → Tailing alpha i (set out i (get_or alpha (length alpha - 1) nan))
      go i d =
          let n : length alpha - 1 ≡ suc i = omega arith in
          record {
            within = omega arith;
            long = length-set out i _ ∙ e;
            so_far = tails_from alpha out (omega arith) (rw n (sym (tail_last alpha i d))) (λ k m l. absurd (omega arith));
          }

module _ {alpha out : List Float} where
  pub tailing_next : {i : ℕ} → Tailing alpha i out → 0 < i → Tailing alpha (i - 1) (set out (i - 1) (get_or out i nan ⊕ get_or alpha i nan))
  tailing_next {i} h l = go (i - 1) (omega arith)
    where
      go : (j : ℕ) → suc j ≡ i → Tailing alpha j (set out j (get_or out i nan ⊕ get_or alpha i nan))
      go j e =
          let v = get_or out i nan ⊕ get_or alpha i nan in
          let here : v ≡ tail_after alpha j = rw (h.so_far i (le_refl i) h.within) (rw (← e) (sym (tail_next alpha j (omega (arith, h.within))))) in
          record {
            within = omega (arith, h.within);
            long = length-set out j v ∙ h.long;
            so_far = tails_from alpha out (omega (arith, h.long, h.within)) here (λ k m. h.so_far k (omega arith));
          }
