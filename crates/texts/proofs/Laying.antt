-- A text that fits replaces the bytes from its place on and no other, so that the front of the buffer, the bytes past the text and the
-- length are known after it; two texts in a row are then their concatenation. Assumes nothing.
use Prim.Native.Nat.{ℕ, ◌+◌, ◌≤◌, ◌<◌}
use native.Mathlib.Numerals.{add-one}
use native.Mathlib.Omega.{arith}
use mathlib.Core.Path.{◌≡◌, refl, sym, ap, ◌∙◌, subst}
use mathlib.Core.List.{List, ◌++◌, append_assoc}
use mathlib.Core.Bool.{Bool, true, false, cond}
use lib.ListN.{length, take, drop, set, get_or, length-append, length-drop, length-set}
use lib.Seq.{paste, paste-zero, paste-suc, take_at, drop_at, drop-drop, length-take-le, take-length}
use lib.Dec.{leb}
use borrow.Author.Tests.{le-leb, leb-true}
use Rattle.texts.specs.Bytes.{feed}
use Rattle.texts.specs.Laid.{fits, laid, place_past, Lays}
use Rattle.texts.specs.Numbers.{line_text}
use Rattle.texts.proofs.Digits.{by_cases}

-- ---- where there is room, and where there is none

module _ (o : List ℕ) (at : ℕ) (t : List ℕ) where
  pub laid_fitting : at + length t ≤ length o → laid o at t ≡ take at o ++ t ++ drop (at + length t) o
  unfolding laid
  laid_fitting h = rw (le-leb (at + length t) (length o) h)

  pub past_fitting : at + length t ≤ length o → place_past o at t ≡ at + length t
  unfolding place_past
  past_fitting h = rw (le-leb (at + length t) (length o) h)

  pub lays_nothing : fits o at t ≡ false → Lays o at t at o
  unfolding laid place_past
  lays_nothing e = record { place = rw e; holds = rw e }

cond_within : (t : Bool) (x y n : ℕ) → (t ≡ true → x ≤ n) → y ≤ n → cond t x y ≤ n
cond_within true x y n f h = f refl
cond_within false x y n f h = h

-- the place stays within the buffer, so what was laid can be lent on as `&out[..place]`
pub past_within : (o : List ℕ) (at : ℕ) (t : List ℕ) → at ≤ length o → place_past o at t ≤ length o
unfolding place_past
past_within o at t h = cond_within (fits o at t) (at + length t) at (length o) (leb-true (at + length t) (length o)) h

-- ---- what a text that fits leaves

module _ (o : List ℕ) (at : ℕ) (t : List ℕ) (h : at + length t ≤ length o) where
  front_length : length (take at o ++ t) ≡ at + length t
  front_length = length-append (take at o) t ∙ omega (arith, length-take-le at o (omega arith))

  pub laid_length : length (laid o at t) ≡ length o
  laid_length = ap length (laid_fitting o at t h) ∙ length-append (take at o ++ t) (drop (at + length t) o) ∙ omega (arith, front_length, length-drop (at + length t) o)

  -- up to the place past the text: what stood before it, and the text
  pub laid_front : take (at + length t) (laid o at t) ≡ take at o ++ t
  laid_front = ap (take (at + length t)) (laid_fitting o at t h) ∙ take_at (take at o ++ t) (drop (at + length t) o) (at + length t) front_length

  -- bytes past the text stay as they were
  pub laid_rest : drop (at + length t) (laid o at t) ≡ drop (at + length t) o
  laid_rest = ap (drop (at + length t)) (laid_fitting o at t h) ∙ drop_at (take at o ++ t) (drop (at + length t) o) (at + length t) front_length

  pub laid_beyond : (m : ℕ) → drop (at + length t + m) (laid o at t) ≡ drop (at + length t + m) o
  laid_beyond m = sym (drop-drop m (at + length t) (laid o at t)) ∙ ap (drop m) laid_rest ∙ drop-drop m (at + length t) o

-- a text laid at the front is the front
pub laid_first : (o t : List ℕ) → length t ≤ length o → take (length t) (laid o 0 t) ≡ t
laid_first o t h = let z : 0 + length t ≡ length t = omega arith in ap (λ (k : ℕ). take k (laid o 0 t)) (sym z) ∙ laid_front o 0 t (omega arith)

-- ---- one text after another

module _ (o : List ℕ) (at : ℕ) (t u : List ℕ) (h : at + length (t ++ u) ≤ length o) where
  both : at + length t + length u ≡ at + length (t ++ u)
  both = omega (arith, length-append t u)

  first_fits : at + length t ≤ length o
  first_fits = omega (arith, length-append t u)

  pub laid_twice : laid (laid o at t) (at + length t) u ≡ laid o at (t ++ u)
  laid_twice =
      laid_fitting (laid o at t) (at + length t) u (omega (arith, both, laid_length o at t first_fits))
      ∙ ap (λ (z : List ℕ). z ++ u ++ drop (at + length t + length u) (laid o at t)) (laid_front o at t first_fits)
      ∙ ap (λ (z : List ℕ). take at o ++ t ++ u ++ z) (laid_beyond o at t first_fits (length u) ∙ ap (λ (k : ℕ). drop k o) both)
      ∙ ap (λ (z : List ℕ). z ++ drop (at + length (t ++ u)) o) (append_assoc (take at o) t u)
      ∙ sym (laid_fitting o at (t ++ u) h)

-- where there is room for both, two functions that lay t and then u have laid t ++ u
pub lays_both : {o p q : List ℕ} {at r s : ℕ} {t u : List ℕ} → at + length (t ++ u) ≤ length o → Lays o at t r p → Lays p r u s q → Lays o at (t ++ u) s q
lays_both {o} {p} {q} {at} {r} {s} {t} {u} h a b =
    let k = first_fits o at t u h in
    let e : r ≡ at + length t = a.place ∙ past_fitting o at t k in
    let w : at + length t + length u ≤ length (laid o at t) = omega (arith, both o at t u h, laid_length o at t k) in
    record {
      place = b.place
          ∙ ap (λ (z : List ℕ). place_past z r u) a.holds
          ∙ ap (λ (x : ℕ). place_past (laid o at t) x u) e
          ∙ past_fitting (laid o at t) (at + length t) u w
          ∙ both o at t u h
          ∙ sym (past_fitting o at (t ++ u) h);
      holds = b.holds
          ∙ ap (λ (z : List ℕ). laid z r u) a.holds
          ∙ ap (λ (x : ℕ). laid (laid o at t) x u) e
          ∙ laid_twice o at t u h;
    }

pub lays_length : {o p : List ℕ} {at r : ℕ} {t : List ℕ} → at + length t ≤ length o → Lays o at t r p → length p ≡ length o
lays_length {o} {p} {at} {r} {t} h a = ap length a.holds ∙ laid_length o at t h

-- whether the text fits or not, the buffer keeps its length, and the place answered is within it if the one given was
module _ {o p : List ℕ} {at r : ℕ} (t : List ℕ) (a : Lays o at t r p) where
  pub lays_kept : length p ≡ length o
  unfolding laid
  lays_kept = by_cases (fits o at t) (λ e. lays_length (leb-true (at + length t) (length o) e) a) (λ e. ap length (rw e at a.holds))

  pub lays_within : at ≤ length o → r ≤ length p
  lays_within h = rw (a.place, lays_kept) (past_within o at t h)

pub lays_same : {o p : List ℕ} {at r : ℕ} {t u : List ℕ} → Lays o at t r p → t ≡ u → Lays o at u r p
lays_same {o} {p} {at} {r} a e = subst (λ z. Lays o at z r p) e a

-- ---- byte by byte: the first i bytes of t are copied

pub record Copied (o : List ℕ) (at : ℕ) (t p : List ℕ) (i : ℕ) : Type 0 where
  pub room : at + length t ≤ length o
  pub within : i ≤ length t
  pub so_far : p ≡ paste o at t i
  pub long : length p ≡ length o

pub copied_none : (o : List ℕ) (at : ℕ) (t : List ℕ) → fits o at t ≡ true → Copied o at t o 0
copied_none o at t h = record { room = leb-true (at + length t) (length o) h; within = omega arith; so_far = paste-zero o at t; long = refl }

module _ {o : List ℕ} {at : ℕ} {t p : List ℕ} {i : ℕ} (c : Copied o at t p i) where
  pub copied_more : i < length t → Copied o at t (set p (at + i) (get_or t i 0)) (i + 1)
  copied_more m =
      record {
        room = c.room;
        within = omega arith;
        so_far = ap (λ (z : List ℕ). set z (at + i) (get_or t i 0)) c.so_far ∙ paste-suc o at t i 0 (omega arith) m ∙ ap (paste o at t) (sym (add-one i));
        long = length-set p (at + i) (get_or t i 0) ∙ c.long;
      }

  pub copied_all : length t ≤ i → Lays o at t (at + i) p
  copied_all m =
      let e : i ≡ length t = omega (arith, c.within) in
      record {
        place = ap (λ (k : ℕ). at + k) e ∙ sym (past_fitting o at t c.room);
        holds = c.so_far
            ∙ ap (paste o at t) e
            ∙ ap (λ (z : List ℕ). take at o ++ z ++ drop (at + length t) o) (take-length t)
            ∙ sym (laid_fitting o at t c.room);
      }

-- ---- a line

pub line_length : (key t : List ℕ) → length (line_text key t) ≡ length key + length t + 1
unfolding line_text
line_length key t = length-append key (t ++ feed) ∙ omega (arith, length-append t feed)

pub line_nothing : (o : List ℕ) (at : ℕ) (key t : List ℕ) → leb (at + (length key + length t + 1)) (length o) ≡ false → Lays o at (line_text key t) at o
line_nothing o at key t e = lays_nothing o at (line_text key t) (ap (λ (k : ℕ). leb (at + k) (length o)) (line_length key t) ∙ e)

pub line_laid : {o p q s : List ℕ} {at a b r : ℕ} (key t : List ℕ) → leb (at + (length key + length t + 1)) (length o) ≡ true
    → Lays o at key a p → Lays p a t b q → Lays q b feed r s → Lays o at (line_text key t) r s
unfolding line_text
line_laid {o} {p} {q} {s} {at} {a} key t e x y z =
    let h = leb-true (at + (length key + length t + 1)) (length o) e in
    let l = lays_length {t = key} (omega arith) x in
    let w : a ≡ at + length key = x.place ∙ past_fitting o at key (omega arith) in
    let m = length-append t feed in
    lays_both (omega (arith, length-append key (t ++ feed))) x (lays_both (omega arith) y z)
