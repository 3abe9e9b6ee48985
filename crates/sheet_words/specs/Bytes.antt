-- What stands at the front of bytes: a fixed text, a number, a list of numbers, and either of these after a key. Definitions only.
use Rattle.std.specs.Prelude.{ℕ, zero, suc, ◌+◌, ◌*◌, ◌-◌, List, [], ◌∷◌, ◌++◌, cond, ltb, eqb, Option, Some, None}
use Rattle.texts.specs.Bytes.{feed}
use Rattle.sheet_words.specs.declared.{Fault.Fault, Fault.TheVariants.Wrong, Fault.TheVariants.Ended}

-- what was read and the bytes past it, or why it can't be read
pub data Got (A : Type 0) : Type 0 where
  got : A → List ℕ → Got A
  fault : Fault → Got A

-- what is read next, from the bytes past it
abbrev pub then : {A B : Type 0} → Got A → (A → List ℕ → Got B) → Got B
then (got a b) f = f a b
then (fault e) f = fault e

-- the value that what was read stands for
abbrev pub gives : {A B : Type 0} → B → Got A → Got B
gives v (got a b) = got v b
gives v (fault e) = fault e

-- 'compared as fixed bytes'
unfoldable pub fixed : List ℕ → List ℕ → Got Unit
fixed [] b = got tt b
fixed (k ∷ t) [] = fault Ended
fixed (k ∷ t) (x ∷ b) = cond (eqb x k) (fixed t b) (fault Wrong)

-- '16 lowercase hex digits a number': what a byte stands for that is a digit
unfoldable pub digit_value : ℕ → Option ℕ
digit_value x = cond (ltb x 48) None (cond (ltb x 58) (Some (x - 48)) (cond (ltb x 97) None (cond (ltb x 103) (Some (x - 87)) None)))

-- what is read on from a digit
abbrev pub from_digit : Option ℕ → (ℕ → Got ℕ) → Got ℕ
from_digit (Some d) f = f d
from_digit None f = fault Wrong

-- k more digits of a number whose digits up to there make n
unfoldable pub hex_from : ℕ → ℕ → List ℕ → Got ℕ
hex_from zero n b = got n b
hex_from (suc k) n [] = fault Ended
hex_from (suc k) n (x ∷ b) = from_digit (digit_value x) (λ d. hex_from k (n * 16 + d) b)

abbrev pub word : List ℕ → Got ℕ
word b = hex_from 16 0 b

abbrev pub ahead : List ℕ → Got (List ℕ) → Got (List ℕ)
ahead ns (got ms b) = got (ns ++ ms) b
ahead ns (fault e) = fault e

-- 'split by commas', and 'ended by a line feed': what may stand after the number n of a list
unfoldable pub after_word : ℕ → (List ℕ → Got (List ℕ)) → List ℕ → Got (List ℕ)
after_word n others [] = fault Ended
after_word n others (x ∷ b) = cond (eqb x 10) (got (n ∷ []) b) (cond (eqb x 44) (ahead (n ∷ []) (others b)) (fault Wrong))

-- at least one number and at most r, to past the line feed
unfoldable pub some_words : ℕ → List ℕ → Got (List ℕ)
some_words zero b = fault Wrong
some_words (suc r) b = then (word b) (λ n c. after_word n (λ d. some_words r d) c)

-- 'lists of 0 to 64', where 64 is the most that there may be
unfoldable pub word_list : ℕ → List ℕ → Got (List ℕ)
word_list most [] = fault Ended
word_list most (x ∷ b) = cond (eqb x 10) (got [] b) (some_words most (x ∷ b))

-- ---- after a key, to past the line feed

-- as line 3, 'a=3ff0000000000000'
unfoldable pub word_line : List ℕ → List ℕ → Got ℕ
word_line key b = then (fixed key b) (λ _ c. then (word c) (λ n d. gives n (fixed feed d)))

-- as lines 5 to 7, 'uniforms=3fe0000000000000,3fe0000000000000'
unfoldable pub list_line_lem : List ℕ → ℕ → List ℕ → Got (List ℕ)
list_line_lem key most b = then (fixed key b) (λ _ c. word_list most c)
