-- How the answers of the functions, which have positions in the bytes l, are read as answers of Bytes. Definitions only.
use Rattle.std.specs.Prelude.{ℕ, zero, suc, ◌+◌, ◌≤◌, ◌<◌, ◌≡◌, List, [], ◌∷◌, length, drop, Result, Ok, Err}
use Rattle.sheet_words.specs.Bytes.{Got, got, fault, fixed, word}
use Rattle.sheet_words.specs.declared.{Span.Span, Fault.Fault}

-- x stands at the position j
pub record ByteAt (l : List ℕ) (j x : ℕ) : Type 0 where
  pub within : j < length l
  pub stands : drop j l ≡ x ∷ drop (j + 1) l

-- what was read, as it is shown, and the bytes past it
abbrev pub shown : {A B : Type 0} → (A → B) → List ℕ → Result (A × ℕ) Fault → Got B
shown show l (Ok (a, n)) = got (show a) (drop n l)
shown show l (Err e) = fault e

abbrev pub passed_shown : List ℕ → Result ℕ Fault → Got Unit
passed_shown l (Ok n) = got tt (drop n l)
passed_shown l (Err e) = fault e

abbrev pub counted_shown : List ℕ → Result (ℕ × ℕ) Fault → Got ℕ
counted_shown l r = shown (λ v. v) l r

-- the numbers that stand at the front of b, at most k, with one byte between each and the next
abbrev pub onward : Got ℕ → (List ℕ → List ℕ) → List ℕ
onward (got n c) f = n ∷ f (drop 1 c)
onward (fault e) f = []

unfoldable pub words : ℕ → List ℕ → List ℕ
words zero b = []
words (suc k) b = onward (word b) (λ c. words k c)

-- a list that was read and not yet stored: where its numbers start, and how many they are
abbrev pub words_of : List ℕ → Span → List ℕ
words_of l p = words p.count (drop p.at l)

abbrev pub listed_shown : List ℕ → Result (Span × ℕ) Fault → Got (List ℕ)
listed_shown l r = shown (words_of l) l r

-- a span has as many numbers as it says, and there is room for them
pub record Spanned (l : List ℕ) (p : Span) (most : ℕ) : Type 0 where
  pub count_is : length (words_of l p) ≡ p.count
  pub few : p.count ≤ most

-- n is where the bytes past the key, which stands at the front of b, begin in l
pub record Begins (l key b : List ℕ) (n : ℕ) : Type 0 where
  pub past_key : fixed key b ≡ got tt (drop n l)
  pub within : n ≤ length l

-- a span begins past its key, and the position past the list is within l, for its line feed stands before it
pub record ListIn (l key b : List ℕ) (most : ℕ) (p : Span) (n : ℕ) : Type 0 where
  pub spanned : Spanned l p most
  pub begins : Begins l key b p.at
  pub within : n ≤ length l

abbrev pub ListedIn : List ℕ → List ℕ → List ℕ → ℕ → Result (Span × ℕ) Fault → Type 0
ListedIn l key b most (Ok (p, n)) = ListIn l key b most p n
ListedIn l key b most (Err e) = Unit
