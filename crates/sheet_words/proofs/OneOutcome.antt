-- Any two outcomes that the promise of `list_line` allows coincide. A position within the bytes is settled by what is left past it, and so is where
-- the numbers of a span begin, past its key; how many they are is the length of what the span shows. Assumes nothing.
use Prim.Native.Nat.{ℕ, ◌≤◌}
use native.Mathlib.Omega.{arith}
use mathlib.Core.Path.{◌≡◌, refl, sym, ap, ◌∙◌}
use mathlib.Core.List.{List}
use lib.ListN.{length, drop, length-drop}
use Rattle.std.specs.Prelude.{Result, Ok, Err}
use Rattle.sheet_words.specs.Bytes.{got, fixed, list_line_lem}
use Rattle.sheet_words.specs.Inner.{words_of, listed_shown, Spanned, Begins, ListedIn}
use Rattle.sheet_words.specs.declared.Span.{Span}
use Rattle.sheet_words.specs.declared.Fault.{Fault}

pub one_place : (l : List ℕ) {n n' : ℕ} → n ≤ length l → n' ≤ length l → drop n l ≡ drop n' l → n ≡ n'
one_place l {n} {n'} h h' e = let d : length (drop n l) ≡ length (drop n' l) = ap length e in omega (arith, d, length-drop n l, length-drop n' l)

module _ (l key : List ℕ) where
  -- of two spans that show the same numbers past the same key
  pub one_span : {b b' : List ℕ} {most : ℕ} {p p' : Span} → b ≡ b' → Begins l key b p.at → Begins l key b' p'.at → Spanned l p most → Spanned l p' most → words_of l p ≡ words_of l p' → p ≡ p'
  one_span {b} {b'} {most} {p} {p'} e k k' s s' w =
      let left : got tt (drop p.at l) ≡ got tt (drop p'.at l) = sym k.past_key ∙ ap (fixed key) e ∙ k'.past_key in
      let places : drop p.at l ≡ drop p'.at l = cc in
      let at = one_place l k.within k'.within places in
      let count = sym s.count_is ∙ ap length w ∙ s'.count_is in
      let same : record { at = p.at; count = p.count } ≡ p' = rw (at, count) in
      same

  one_shown : (b : List ℕ) (most : ℕ) (r r' : Result (Span × ℕ) Fault) → ListedIn l key b most r → ListedIn l key b most r' → listed_shown l r ≡ listed_shown l r' → r ≡ r'
  one_shown b most (Ok (p, n)) (Ok (p', n')) k k' e =
      let words : words_of l p ≡ words_of l p' = cc in
      let left : drop n l ≡ drop n' l = cc in
      rw (one_span refl k.begins k'.begins k.spanned k'.spanned words, one_place l k.within k'.within left)
  one_shown b most (Ok (p, n)) (Err f) k k' e = absurd (cc)
  one_shown b most (Err f) (Ok (p, n)) k k' e = absurd (cc)
  one_shown b most (Err f) (Err f') k k' e = cc

  pub one_list : (b : List ℕ) (most : ℕ) (r r' : Result (Span × ℕ) Fault) → listed_shown l r ≡ list_line_lem key most b → ListedIn l key b most r → listed_shown l r' ≡ list_line_lem key most b → ListedIn l key b most r' → r ≡ r'
  one_list b most r r' e k e' k' = one_shown b most r r' k k' (e ∙ sym e')
