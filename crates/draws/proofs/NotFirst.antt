-- In the arm of a match for all refusals, the variants after the first, an answer is known not to be the first, and so by its tag to be one of the
-- others. What goes by the number at each of them, goes by it there.
use Prim.Native.Nat.{ℕ, suc, ◌+◌}
use native.Mathlib.Nat.{add-zero}
use native.Mathlib.Omega.{arith}
use mathlib.Core.List.{List, [], ◌∷◌}
use mathlib.Core.Logic.{inl, inr}
use mathlib.Core.Path.{◌≡◌, refl, sym, ap, subst, ◌∙◌}
use lib.ListN.{drop}
use types.Run.{OneOf}
use denote.Struct.Field.{Field}
use denote.Enum.Declared.{Choice, Record, declared, tag_of}
use borrow.Enum.Known.{ValuesAt, choose, at, lives_at}

abbrev from {ℓ} : {A : Type ℓ} → ℕ → List A → List ℕ
from k [] = []
from k (x ∷ xs) = k ∷ from (suc k) xs

-- their tags
abbrev pub refusals : Record → List ℕ
refusals N = from 1 (drop 1 N.parts)

-- ---- what is not of the first variant is of one of them
abbrev tag_in : (Fss : List (List Field)) → Choice Fss → ℕ
tag_in Fss c = denote.Enum.Enum.tag (denote.Enum.Declared.rowss Fss) (denote.Enum.Declared.intoss Fss c)

among : (j : ℕ) (Fss : List (List Field)) (c : Choice Fss) → OneOf (from j Fss) (j + tag_in Fss c)
among j [] c = absurd c
among j (Fs ∷ []) (inl v) = add-zero j
among j (Fs ∷ []) (inr c) = absurd c
among j (Fs ∷ Gs ∷ Fss) (inl v) = inl (add-zero j)
among j (Fs ∷ Gs ∷ Fss) (inr c) =
    let t = tag_in (Gs ∷ Fss) c in
    let e : suc j + t ≡ j + suc t = omega arith in
    inr (subst (OneOf (from (suc j) (Gs ∷ Fss))) e (among (suc j) (Gs ∷ Fss) c))

past_first : (Fss : List (List Field)) (c : Choice Fss) → ((v : ValuesAt Fss 0) → c ≡ choose Fss 0 v → ⊥) → OneOf (from 1 (drop 1 Fss)) (tag_in Fss c)
past_first [] c h = absurd c
past_first (Fs ∷ Fss) (inl v) h = absurd (h v refl)
past_first (Fs ∷ []) (inr c) h = absurd c
past_first (Fs ∷ Gs ∷ Fss) (inr c) h =
    let t = tag_in (Gs ∷ Fss) c in
    let e : 1 + t ≡ suc t = omega arith in
    subst (OneOf (from 1 (Gs ∷ Fss))) e (among 1 (Gs ∷ Fss) c)

pub not_first : (N : Record) {m : N.D} → ((v : ValuesAt N.parts 0) → m ≡ at N 0 v → ⊥) → OneOf (refusals N) (tag_of (declared N) m)
not_first N {m} h = past_first N.parts (N.as_values m) (λ v e. h v (sym (N.eta m) ∙ ap N.make e))

-- ---- what goes by the number
module _ {X : Type 0} (N : Record) (f : N.D → X) (g : ℕ → X) (number : N.D → ℕ) where
  -- of one variant, whatever it holds; of each of these
  abbrev By : ℕ → Type 0
  By k = (v : ValuesAt N.parts k) → f (at N k v) ≡ g (number (at N k v))

  abbrev pub Each : List ℕ → Type 0
  Each [] = Unit
  Each (k ∷ []) = By k
  Each (k ∷ j ∷ ks) = By k × Each (j ∷ ks)

  by_one : (k : ℕ) → By k → (m : N.D) → tag_of (declared N) m ≡ k → f m ≡ g (number m)
  by_one k a m e = let l = lives_at N m k e in rw l.1 (a l.0)

  by_each : (ks : List ℕ) → Each ks → (m : N.D) → OneOf ks (tag_of (declared N) m) → f m ≡ g (number m)
  by_each [] a m h = absurd h
  by_each (k ∷ []) a m h = by_one k a m h
  by_each (k ∷ j ∷ ks) a m (inl e) = by_one k a.0 m e
  by_each (k ∷ j ∷ ks) a m (inr h) = by_each (j ∷ ks) a.1 m h

  -- m as the constructor answered it, n as its number was told
  pub by_number : Each (refusals N) → {m m' : N.D} {n : ℕ} → m ≡ m' → OneOf (refusals N) (tag_of (declared N) m) → n ≡ number m → f m' ≡ g n
  by_number a {m} e h i = ap f (sym e) ∙ by_each (refusals N) a m h ∙ ap g (sym i)
