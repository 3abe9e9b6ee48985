-- A list's text is read as its numbers, and only that text is: each number by Hex, then the comma or the line feed that tells whether there
-- are more. Assumes nothing.
use Prim.Native.Nat.{ℕ, zero, suc, ◌^◌, ◌≤◌, ◌<◌}
use native.Mathlib.Omega.{arith}
use mathlib.Core.Path.{◌≡◌, refl, sym, ap, ◌∙◌, subst}
use mathlib.Core.List.{List, [], ◌∷◌, ◌++◌, append_assoc}
use lib.ListN.{length}
use lib.Dec.{eqb}
use borrow.Author.Tests.{eqb-true}
use Rattle.texts.specs.Bytes.{feed}
use Rattle.texts.specs.Numbers.{hex_text}
use Rattle.texts.proofs.Digits.{by_cases}
use Rattle.sheet_words.specs.Bytes.{Got, got, fault, digit_value, hex_from, word, ahead, after_word, some_words, word_list}
use Rattle.sheet.specs.Written.{list_text, Words, none, one, Held}
use Rattle.sheet_words.proofs.Hex.{cond_got, then_got, word_back, word_is}

-- ---- what is written is read

some_back : (r n : ℕ) (ms b : List ℕ) → Words (n ∷ ms) → length (n ∷ ms) ≤ r → some_words r (list_text (n ∷ ms) ++ b) ≡ got (n ∷ ms) b
unfolding some_words list_text after_word
some_back zero n ms b w h = absurd (omega arith)
some_back (suc r) n [] b (one p w) h = rw (append_assoc, word_back n (10 ∷ b) p)
some_back (suc r) n (m ∷ ms) b (one p w) h = rw (append_assoc, word_back n (44 ∷ (list_text (m ∷ ms) ++ b)) p, some_back r m ms b w (omega arith))

-- bytes that start with a number don't start with a line feed
not_empty : (most : ℕ) (b : List ℕ) {n : ℕ} {c : List ℕ} → word b ≡ got n c → word_list most b ≡ some_words most b
unfolding word_list hex_from digit_value
not_empty most [] h = absurd (cc)
not_empty most (x ∷ b) h =
    by_cases (eqb x 10)
    (λ t. let k = ap (λ (y : ℕ). word (y ∷ b)) (sym (eqb-true x 10 t)) ∙ h in absurd (cc))
    (λ t. rw t)

starts_with : (n : ℕ) (ms b : List ℕ) → (c : List ℕ) × (list_text (n ∷ ms) ++ b ≡ hex_text n ++ c)
unfolding list_text
starts_with n [] b = (10 ∷ b, append_assoc (hex_text n) feed b)
starts_with n (m ∷ ms) b = (44 ∷ (list_text (m ∷ ms) ++ b), append_assoc (hex_text n) (44 ∷ list_text (m ∷ ms)) b)

none_back : (most : ℕ) (b : List ℕ) → word_list most (list_text [] ++ b) ≡ got [] b
unfolding word_list list_text
none_back most b = refl

first_word : {n : ℕ} {ms : List ℕ} → Words (n ∷ ms) → n < 2 ^ 64
first_word (one p w) = p

pub word_list_back : (most : ℕ) (ns b : List ℕ) → Held most ns → word_list most (list_text ns ++ b) ≡ got ns b
word_list_back most [] b h = none_back most b
word_list_back most (n ∷ ms) b h =
    let s = starts_with n ms b in
    not_empty most (list_text (n ∷ ms) ++ b) {n = n} {c = s.0} (rw s.1 (word_back n s.0 (first_word h.words)))
    ∙ some_back most n ms b h.words h.few

-- ---- what is read was written

ahead_got : (ns : List ℕ) (g : Got (List ℕ)) {v c : List ℕ} → ahead ns g ≡ got v c → (ms : List ℕ) × (g ≡ got ms c) × (v ≡ ns ++ ms)
ahead_got ns (got ms b) h = (ms, cc, cc)
ahead_got ns (fault e) h = absurd (cc)

data After (n : ℕ) (others : List ℕ → Got (List ℕ)) (b ns c : List ℕ) : Type 0 where
  last : ns ≡ n ∷ [] → b ≡ 10 ∷ c → After n others b ns c
  comma : (ms d : List ℕ) → ns ≡ n ∷ ms → b ≡ 44 ∷ d → others d ≡ got ms c → After n others b ns c

after_is : (n : ℕ) (others : List ℕ → Got (List ℕ)) (b : List ℕ) {ns c : List ℕ} → after_word n others b ≡ got ns c → After n others b ns c
unfolding after_word
after_is n others [] h = absurd (cc)
after_is n others (x ∷ b) h =
    by_cases (eqb x 10)
    (λ t. let e = eqb-true x 10 t in let k = rw t at h in last (cc) (cc))
    (λ t. let k = rw t at h in
    let p = cond_got (eqb x 44) k in
    let e = eqb-true x 44 p.0 in
    let a = ahead_got (n ∷ []) (others b) p.1 in
    comma a.0 b a.2 (cc) a.1)

-- one number or more, of which r at most
record Some (r : ℕ) (b ns c : List ℕ) : Type 0 where
  first : ℕ
  others : List ℕ
  these : ns ≡ first ∷ others
  held : Held r ns
  text_is : b ≡ list_text ns ++ c

-- the text of a number in front of a list's
comma_text : (n m : ℕ) (ms c : List ℕ) → hex_text n ++ (44 ∷ (list_text (m ∷ ms) ++ c)) ≡ list_text (n ∷ m ∷ ms) ++ c
unfolding list_text
comma_text n m ms c = sym (append_assoc (hex_text n) (44 ∷ list_text (m ∷ ms)) c)

feed_text : (n : ℕ) (c : List ℕ) → hex_text n ++ (10 ∷ c) ≡ list_text (n ∷ []) ++ c
unfolding list_text
feed_text n c = sym (append_assoc (hex_text n) feed c)

some_after : (r n : ℕ) (b d : List ℕ) {ns c : List ℕ} → ((f ms e : List ℕ) → some_words r f ≡ got ms e → Some r f ms e)
    → n < 2 ^ 64 → b ≡ hex_text n ++ d → After n (λ e. some_words r e) d ns c → Some (suc r) b ns c
some_after r n b d {ns} {c} ih p e (last i j) =
    record {
      first = n;
      others = [];
      these = i;
      held = record { few = omega (arith, ap length i); words = subst Words (sym i) (one p none) };
      text_is = e ∙ ap (λ (z : List ℕ). hex_text n ++ z) j ∙ feed_text n c ∙ ap (λ (z : List ℕ). list_text z ++ c) (sym i);
    }
some_after r n b d {ns} {c} ih p e (comma ms f i j k) =
    let s = ih f ms c k in
    let t : f ≡ list_text (s.first ∷ s.others) ++ c = s.text_is ∙ ap (λ (z : List ℕ). list_text z ++ c) s.these in
    record {
      first = n;
      others = ms;
      these = i;
      held = record { few = omega (arith, ap length i, s.held.few); words = subst Words (sym i) (one p s.held.words) };
      text_is = e
          ∙ ap (λ (z : List ℕ). hex_text n ++ z) (j ∙ ap (λ (z : List ℕ). 44 ∷ z) t)
          ∙ comma_text n s.first s.others c
          ∙ ap (λ (z : List ℕ). list_text z ++ c) (sym (i ∙ ap (λ (z : List ℕ). n ∷ z) s.these));
    }

some_is : (r : ℕ) (b : List ℕ) {ns c : List ℕ} → some_words r b ≡ got ns c → Some r b ns c
unfolding some_words
some_is zero b h = absurd (cc)
some_is (suc r) b h =
    let t = then_got (word b) (λ n c. after_word n (λ d. some_words r d) c) h in
    let x = word_is b t.first_is in
    some_after r t.first b t.rest (λ f ms e k. some_is r f k) x.0 x.1 (after_is t.first (λ d. some_words r d) t.rest t.then_is)

pub word_list_is : (most : ℕ) (b : List ℕ) {ns c : List ℕ} → word_list most b ≡ got ns c → (b ≡ list_text ns ++ c) × Held most ns
unfolding word_list list_text
word_list_is most [] h = absurd (cc)
word_list_is most (x ∷ b) {ns} {c} h =
    by_cases (eqb x 10)
    (λ t. let e = eqb-true x 10 t in let k = rw t at h in
    let n : ns ≡ [] = cc in
    let d : b ≡ c = cc in
    (rw (n, e, d), record { few = omega (arith, ap length n); words = rw n none }))
    (λ t. let k = rw t at h in
    let s = some_is most (x ∷ b) k in
    (s.text_is, s.held))
