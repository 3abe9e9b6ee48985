-- A loop that puts f of what it finds into each element: those below i are f of what they were, the others as they were.
use Prim.Native.Nat.{ℕ, suc, ◌+◌, ◌<◌, ◌≤◌}
use native.Mathlib.Numerals.{add-one}
use native.Mathlib.Omega.{arith}
use mathlib.Core.Path.{◌≡◌, refl, ◌∙◌, ap}
use mathlib.Core.List.{List, [], ◌∷◌, ◌++◌, map, map-append, append-nil, append_assoc}
use lib.ListN.{length, get_or, take, drop, set, length-take, length-map, drop_of_length-le, length-set}
use lib.Seq.{drop-cons, take-suc, take_all, set_at, get_or_at}
use lib.Ieee.{Float, nan}

pub record Mapped (f : Float → Float) (xs : List Float) (i : ℕ) (out : List Float) : Type 0 where
  pub long : length out ≡ length xs
  pub so_far : out ≡ map f (take i xs) ++ drop i xs

pub mapped_starts : (f : Float → Float) (xs : List Float) → Mapped f xs 0 xs
mapped_starts f xs = record { long = refl; so_far = refl }

module _ {f : Float → Float} {xs : List Float} {i : ℕ} {out : List Float} (h : Mapped f xs i out) where
  pub mapped_next : i < length xs → Mapped f xs (i + 1) (set out i (f (get_or out i nan)))
  mapped_next l =
      let x = get_or xs i nan in
      let done = map f (take i xs) in
      let e : out ≡ done ++ x ∷ drop (suc i) xs = h.so_far ∙ rw (drop-cons xs i nan) in
      let n : length done ≡ i = length-map (take i xs) f ∙ length-take i xs ∙ omega arith in
      let d : map f (take (suc i) xs) ≡ done ++ f x ∷ [] = rw (take-suc xs i nan) (map-append f (take i xs) (x ∷ [])) in
      record {
        long = length-set out i _ ∙ h.long;
        so_far =
            rw (add-one i, d, append_assoc)
            (ap (λ (o : List Float). set o i (f (get_or o i nan))) e ∙ rw (get_or_at done x (drop (suc i) xs) nan i n) (set_at done x (drop (suc i) xs) (f x) i n));
      }

  pub mapped_ends : length xs ≤ i → out ≡ map f xs
  mapped_ends l = h.so_far ∙ rw (take_all i xs, drop_of_length-le xs l, append-nil)
