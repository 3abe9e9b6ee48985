-- The numbers of a span into the cells of a buffer, one a turn: those stored are the first of its words, and the rest of
-- them stand from the next number on. Assumes nothing.
use Prim.Native.Nat.{ℕ, suc, ◌+◌, ◌-◌, ◌≤◌, ◌<◌}
use native.Mathlib.Omega.{arith}
use mathlib.Core.Path.{◌≡◌, refl, sym, ap, ◌∙◌}
use mathlib.Core.List.{List, [], ◌∷◌, ◌++◌, append_assoc, append-nil}
use lib.ListN.{length, drop, set, get_or, drop_of_length-le, length-append}
use lib.Seq.{set_at}
use Rattle.sheet_words.specs.Bytes.{got, fault, word}
use Rattle.sheet.specs.Shown.{over}
use Rattle.sheet_words.specs.Inner.{words}
use Rattle.sheet_words.specs.declared.Fault.{Fault}
use Rattle.sheet_words.proofs.AtPosition.{byte_at}
use Rattle.sheet_words.proofs.Spanning.{words_more, words_fault, words_none}

-- ---- the loop of `store`: k of count words are stored, and the next number stands at j

pub record Stored (l o : List ℕ) (count at : ℕ) (p : List ℕ) (k j : ℕ) : Type 0 where
  pub done : List ℕ
  pub done_many : length done ≡ k
  pub runs : words count (drop at l) ≡ done ++ words (count - k) (drop j l)
  pub holds : p ≡ over done o
  pub room : count ≤ length o

pub stored_none : (l o : List ℕ) (count at : ℕ) → count ≤ length o → Stored l o count at o 0 at
stored_none l o count at h = record { done = []; done_many = refl; runs = ap (λ (m : ℕ). words m (drop at l)) (omega arith); holds = refl; room = h }

module _ {l o : List ℕ} {count at : ℕ} {p : List ℕ} {k j : ℕ} (t : Stored l o count at p k j) where
  all_done : words (count - k) (drop j l) ≡ [] → p ≡ over (words count (drop at l)) o
  all_done e = t.holds ∙ ap (λ (w : List ℕ). over w o) (sym (t.runs ∙ ap (λ (w : List ℕ). t.done ++ w) e ∙ append-nil t.done))

  pub stored_all : count ≤ k → p ≡ over (words count (drop at l)) o
  unfolding words
  stored_all h = let z : count - k ≡ 0 = omega arith in all_done (ap (λ (m : ℕ). words m (drop j l)) z)

  pub stored_fault : {f : Fault} → word (drop j l) ≡ fault f → p ≡ over (words count (drop at l)) o
  stored_fault e = all_done (words_fault l j (count - k) e)

  pub stored_one : (n e : ℕ) → k < count → word (drop j l) ≡ got n (drop e l) → Stored l o count at (set p k n) (k + 1) (e + 1)
  stored_one n e h i =
      let z : count - k ≡ suc (count - (k + 1)) = omega arith in
      let d : drop (length t.done) o ≡ get_or o k 0 ∷ drop (k + 1) o = ap (λ (m : ℕ). drop m o) t.done_many ∙ byte_at o k (omega (arith, t.room)) in
      let many : length (t.done ++ (n ∷ [])) ≡ k + 1 = length-append t.done (n ∷ []) ∙ omega (arith, t.done_many) in
      record {
        done = t.done ++ (n ∷ []);
        done_many = many;
        runs = t.runs
            ∙ ap (λ (w : List ℕ). t.done ++ w) (ap (λ (m : ℕ). words m (drop j l)) z ∙ words_more l j (count - (k + 1)) n e i)
            ∙ sym (append_assoc t.done (n ∷ []) (words (count - (k + 1)) (drop (e + 1) l)));
        holds = ap (λ (w : List ℕ). set w k n) (t.holds ∙ ap (λ (w : List ℕ). t.done ++ w) d)
            ∙ set_at t.done (get_or o k 0) (drop (k + 1) o) n k t.done_many
            ∙ sym (append_assoc t.done (n ∷ []) (drop (k + 1) o))
            ∙ ap (λ (m : ℕ). (t.done ++ (n ∷ [])) ++ drop m o) (sym many);
        room = t.room;
      }

  -- nothing stands past the number at j
  pub stored_last : (n e : ℕ) → k < count → word (drop j l) ≡ got n (drop e l) → length l ≤ e → set p k n ≡ over (words count (drop at l)) o
  stored_last n e h i x = last (stored_one n e h i) where
    last : Stored l o count at (set p k n) (k + 1) (e + 1) → set p k n ≡ over (words count (drop at l)) o
    last u =
        u.holds
        ∙ ap (λ (w : List ℕ). over w o)
        (sym (u.runs ∙ ap (λ (w : List ℕ). u.done ++ w) (ap (words (count - (k + 1))) (drop_of_length-le l {i = e + 1} (omega arith)) ∙ words_none (count - (k + 1))) ∙ append-nil u.done))
