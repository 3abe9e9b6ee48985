-- A list read at a position. `words` of a span go on from where the first k of them end, so each turn of the loop of `list` adds
-- one word to those already met; the rest of the list is what `some_words` reads there. Assumes nothing.
use Prim.Native.Nat.{ℕ, zero, suc, ◌+◌, ◌-◌, ◌≤◌, ◌<◌}
use native.Mathlib.Omega.{arith}
use mathlib.Core.Path.{◌≡◌, refl, sym, ap, ◌∙◌}
use mathlib.Core.List.{List, [], ◌∷◌, ◌++◌, append_assoc, append-nil}
use lib.ListN.{length, drop, length-append}
use lib.Seq.{drop-drop}
use borrow.Author.Tests.{ne_eqb}
use Rattle.std.specs.Prelude.{Result, Ok, Err}
use Rattle.sheet_words.specs.Bytes.{Got, got, fault, fixed, word, hex_from, ahead, after_word, some_words, word_list}
use Rattle.sheet_words.specs.Inner.{words, ByteAt, Begins, ListIn, ListedIn}
use Rattle.sheet_words.specs.declared.Fault.{Fault}
use Rattle.sheet_words.specs.declared.Span.{Span}
use Rattle.sheet_words.specs.declared.Fault.TheVariants.{Wrong, Ended}
use Rattle.sheet_words.proofs.AtPosition.{one_less}

-- ---- words

module _ (l : List ℕ) (j : ℕ) where
  pub words_more : (m n e : ℕ) → word (drop j l) ≡ got n (drop e l) → words (suc m) (drop j l) ≡ n ∷ words m (drop (e + 1) l)
  unfolding words
  words_more m n e h = rw h (ap (λ (b : List ℕ). n ∷ words m b) (drop-drop 1 e l))

  pub words_fault : (m : ℕ) {f : Fault} → word (drop j l) ≡ fault f → words m (drop j l) ≡ []
  unfolding words
  words_fault zero h = refl
  words_fault (suc m) h = rw h

pub words_none : (m : ℕ) → words m [] ≡ []
unfolding words hex_from
words_none zero = refl
words_none (suc m) = refl

-- ---- what stands after a number

module _ (n : ℕ) (others : List ℕ → Got (List ℕ)) where
  after_ended : {b : List ℕ} → b ≡ [] → after_word n others b ≡ fault Ended
  unfolding after_word
  after_ended e = rw e

  module _ {l : List ℕ} {e x : ℕ} (b : ByteAt l e x) where
    after_feed : x ≡ 10 → after_word n others (drop e l) ≡ got (n ∷ []) (drop (e + 1) l)
    unfolding after_word
    after_feed h = rw (b.stands, h)

    after_comma : x ≡ 44 → after_word n others (drop e l) ≡ ahead (n ∷ []) (others (drop (e + 1) l))
    unfolding after_word
    after_comma h = rw (b.stands, h)

    after_wrong : (x ≡ 10 → ⊥) → (x ≡ 44 → ⊥) → after_word n others (drop e l) ≡ fault Wrong
    unfolding after_word
    after_wrong h i = rw (b.stands, ne_eqb x 10 h, ne_eqb x 44 i)

some_fault : (r : ℕ) (b : List ℕ) {f : Fault} → 0 < r → word b ≡ fault f → some_words r b ≡ fault f
unfolding some_words
some_fault zero b p h = absurd (omega arith)
some_fault (suc r) b p h = rw h

some_word : (r : ℕ) (b : List ℕ) {n : ℕ} {c : List ℕ} → 0 < r → word b ≡ got n c → some_words r b ≡ after_word n (λ d. some_words (r - 1) d) c
unfolding some_words
some_word zero b p h = absurd (omega arith)
some_word (suc r) b p h = rw (h, one_less)

ahead_ahead : (ns ms : List ℕ) (g : Got (List ℕ)) → ahead ns (ahead ms g) ≡ ahead (ns ++ ms) g
ahead_ahead ns ms (got ks b) = rw append_assoc
ahead_ahead ns ms (fault e) = refl

ahead_none : (g : Got (List ℕ)) → g ≡ ahead [] g
ahead_none (got ns b) = refl
ahead_none (fault e) = refl

-- without a key
begins_here : (l : List ℕ) (j : ℕ) → j < length l → Begins l [] (drop j l) j
unfolding fixed
begins_here l j h = record { past_key = refl; within = omega arith }

-- a list that begins past a key
pub keyed : (l key b c : List ℕ) (most : ℕ) (r : Result (Span × ℕ) Fault) → fixed key b ≡ got tt c → ListedIn l [] c most r → ListedIn l key b most r
unfolding fixed
keyed l key b c most (Ok (p, m)) e h = record { spanned = h.spanned; begins = record { past_key = e ∙ h.begins.past_key; within = h.begins.within }; within = h.within }
keyed l key b c most (Err f) e h = tt

-- ---- the loop of `list`: the list at `at` is total, k of its words are met, and the next number stands at j

pub record Turn (l : List ℕ) (at most : ℕ) (total : Got (List ℕ)) (k j : ℕ) : Type 0 where
  pub met : List ℕ
  pub met_many : length met ≡ k
  pub so_far : total ≡ ahead met (some_words (most - k) (drop j l))
  pub runs : (m : ℕ) → words (k + m) (drop at l) ≡ met ++ words m (drop j l)

module _ {l : List ℕ} {at most : ℕ} {total : Got (List ℕ)} {k j : ℕ} (t : Turn l at most total k j) where
  pub turn_full : most ≤ k → total ≡ fault Wrong
  unfolding some_words
  turn_full h = let z : most - k ≡ 0 = omega arith in t.so_far ∙ ap (λ (r : ℕ). ahead t.met (some_words r (drop j l))) z

  module _ (h : k < most) where
    pub turn_fault : {f : Fault} → word (drop j l) ≡ fault f → total ≡ fault f
    turn_fault e = t.so_far ∙ rw (some_fault (most - k) (drop j l) (omega arith) e)

    module _ (n e : ℕ) (i : word (drop j l) ≡ got n (drop e l)) where
      here : total ≡ ahead t.met (after_word n (λ d. some_words (most - k - 1) d) (drop e l))
      here = t.so_far ∙ rw (some_word (most - k) (drop j l) (omega arith) i)

      -- with the number at j
      one_more : (m : ℕ) → words (k + 1 + m) (drop at l) ≡ (t.met ++ (n ∷ [])) ++ words m (drop (e + 1) l)
      one_more m =
          let z : k + 1 + m ≡ k + suc m = omega arith in
          ap (λ (x : ℕ). words x (drop at l)) z
          ∙ t.runs (suc m)
          ∙ ap (λ (x : List ℕ). t.met ++ x) (words_more l j m n e i)
          ∙ sym (append_assoc t.met (n ∷ []) (words m (drop (e + 1) l)))

      longer : length (t.met ++ (n ∷ [])) ≡ k + 1
      longer = length-append t.met (n ∷ []) ∙ omega (arith, t.met_many)

      pub turn_ended : drop e l ≡ [] → total ≡ fault Ended
      turn_ended x = here ∙ ap (ahead t.met) (after_ended n (λ d. some_words (most - k - 1) d) x)

      -- the words of the whole list
      all_words : words (k + 1) (drop at l) ≡ t.met ++ (n ∷ [])
      unfolding words
      all_words = let z : k + 1 + 0 ≡ k + 1 = omega arith in ap (λ (x : ℕ). words x (drop at l)) (sym z) ∙ one_more 0 ∙ append-nil (t.met ++ (n ∷ []))

      module _ {x : ℕ} (b : ByteAt l e x) where
        pub turn_wrong : (x ≡ 10 → ⊥) → (x ≡ 44 → ⊥) → total ≡ fault Wrong
        turn_wrong y z = here ∙ ap (ahead t.met) (after_wrong n (λ d. some_words (most - k - 1) d) b y z)

        pub turn_feed : at < length l → x ≡ 10
            → (got (words (k + 1) (drop at l)) (drop (e + 1) l) ≡ total) × ListIn l [] (drop at l) most (record { at = at; count = k + 1 }) (e + 1)
        turn_feed w y = (
          sym (here ∙ rw (after_feed n (λ d. some_words (most - k - 1) d) b y, all_words)),
          record { spanned = record { count_is = ap length all_words ∙ longer; few = omega arith }; begins = begins_here l at w; within = omega arith },
        )

        pub turn_comma : x ≡ 44 → Turn l at most total (k + 1) (e + 1)
        turn_comma y =
            let z : most - k - 1 ≡ most - (k + 1) = omega arith in
            record {
              met = t.met ++ (n ∷ []);
              met_many = longer;
              so_far = here
                  ∙ rw (after_comma n (λ d. some_words (most - k - 1) d) b y, ahead_ahead)
                  (ap (λ (r : ℕ). ahead (t.met ++ (n ∷ [])) (some_words r (drop (e + 1) l))) z);
              runs = one_more;
            }

pub list_ended : (most : ℕ) {b : List ℕ} → b ≡ [] → word_list most b ≡ fault Ended
unfolding word_list
list_ended most e = rw e

module _ {l : List ℕ} {j x : ℕ} (most : ℕ) (b : ByteAt l j x) where
  pub list_none : x ≡ 10
      → (got (words 0 (drop j l)) (drop (j + 1) l) ≡ word_list most (drop j l)) × ListIn l [] (drop j l) most (record { at = j; count = 0 }) (j + 1)
  unfolding word_list words
  list_none h = (
    rw (b.stands, h),
    record { spanned = record { count_is = refl; few = omega arith }; begins = begins_here l j b.within; within = omega arith },
  )

  pub list_begins : (x ≡ 10 → ⊥) → Turn l j most (word_list most (drop j l)) 0 j
  unfolding word_list
  list_begins h =
      record {
        met = [];
        met_many = refl;
        so_far = rw (b.stands, ne_eqb x 10 h) (ahead_none (some_words most (x ∷ drop (j + 1) l)) ∙ ap (λ (r : ℕ). ahead [] (some_words r (x ∷ drop (j + 1) l))) (omega arith));
        runs = λ m. ap (λ (i : ℕ). words i (drop j l)) (omega arith);
      }
