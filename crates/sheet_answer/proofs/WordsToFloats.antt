-- Word by word: the first i words are turned into the first i cells; a cell that is set next stands just past them.
use Prim.Native.Nat.{ℕ, ◌+◌, ◌≤◌, ◌<◌, zero-le}
use native.Mathlib.Nat.{le_refl}
use native.Mathlib.Numerals.{add-one}
use native.Mathlib.Omega.{arith}
use mathlib.Core.Path.{◌≡◌, refl, ap, ◌∙◌, subst}
use mathlib.Core.List.{List, [], ◌∷◌, ◌++◌}
use lib.ListN.{length, get_or, take, set, length-set}
use lib.Seq.{take-suc, take-set-le, take_all, get_or-set_same}
use lib.Ieee.{Float, nan}
use Rattle.sheet_answer.specs.Outcomes.{float, floats}

pub record Turned (ws : List ℕ) (o : List Float) (out : List Float) (i : ℕ) : Type 0 where
  pub within : i ≤ length ws
  pub long : length out ≡ length o
  pub so_far : take i out ≡ floats (take i ws)

pub none_turned : (ws : List ℕ) (o : List Float) → Turned ws o o 0
none_turned ws o = record { within = zero-le; long = refl; so_far = refl }

module _ {ws : List ℕ} {o out : List Float} {i : ℕ} (h : Turned ws o out i) where
  pub one_more : i < length ws → i < length out → {v : Float} → v ≡ float (get_or ws i 0) → Turned ws o (set out i v) (i + 1)
  one_more l m {v} e = record {
    within = omega arith;
    long = length-set out i v ∙ h.long;
    so_far =
        rw (add-one i, take-suc (set out i v) i nan (rw (length-set out i v) m), take-set-le i out i v (le_refl i), get_or-set_same out i v nan m, h.so_far, take-suc ws i 0 l, e)
        (map_append_one (take i ws) (get_or ws i 0));
  }
    where
      map_append_one : (us : List ℕ) (u : ℕ) → floats us ++ float u ∷ [] ≡ floats (us ++ u ∷ [])
      map_append_one [] u = refl
      map_append_one (x ∷ us) u = ap (λ (r : List Float). float x ∷ r) (map_append_one us u)

  pub all_turned : length ws ≤ i → take (length ws) out ≡ floats ws
  all_turned l =
      let e : i ≡ length ws = omega (arith, h.within) in
      subst (λ (k : ℕ). take k out ≡ floats (take k ws)) e h.so_far ∙ ap floats (take_all (length ws) ws (le_refl (length ws)))
