-- What a call gives that shows what a constructor made, for any sampler: the number returned, and every cell lent. Definitions only.
use Rattle.std.specs.Prelude.{ℕ, List, ◌++◌, ◌≡◌, Bool, cond, ◌||◌, Result, Ok, Err, length, drop, ltb, Float}
use Rattle.draws.specs.Promises.{SliceMut}
use Rattle.reports.specs.Reports.{short}

-- a constructor's answer: the kinds and the fields of what it made, or its number
abbrev pub Shown : Type 0
Shown = Result (List ℕ × List Float) ℕ

-- the same of any constructor, s being what shows each sampler and n the number of each refusal
abbrev pub shown : {S E : Type 0} → (S → List ℕ × List Float) → (E → ℕ) → Result S E → Shown
shown s n (Ok g) = Ok (s g)
shown s n (Err e) = Err (n e)

-- values in the first cells; the others are as lent
abbrev pub over : {A : Type 0} → List A → List A → List A
over values cells = values ++ drop (length values) cells

-- fewer cells than there are kinds, k, and fields, f
abbrev pub few : ℕ → ℕ → List ℕ → List Float → Bool
few k f kinds fields = ltb (length kinds) k || ltb (length fields) f

-- how a call ends that finds cells enough: its number, 0 where the sampler was made, and the cells, which a refusal leaves as lent
abbrev pub shown_number : Shown → ℕ
shown_number (Ok (ks, fs)) = 0
shown_number (Err n) = n

abbrev pub shown_kinds : Shown → List ℕ → List ℕ
shown_kinds (Ok (ks, fs)) kinds = over ks kinds
shown_kinds (Err n) kinds = kinds

abbrev pub shown_fields : Shown → List Float → List Float
shown_fields (Ok (ks, fs)) fields = over fs fields
shown_fields (Err n) fields = fields

-- the call, b saying that there are too few cells: then nothing is touched
pub record Shows (b : Bool) (s : Shown) (kinds : List ℕ) (fields : List Float) (r : ℕ) (kinds' : List ℕ) (fields' : List Float) : Type 0 where
  pub number_is : r ≡ cond b short (shown_number s)
  pub kinds_are : kinds' ≡ cond b kinds (shown_kinds s kinds)
  pub fields_are : fields' ≡ cond b fields (shown_fields s fields)

-- ---- as a promise names it: the lent cells, each as it was lent and as it is left; k kinds and f fields
abbrev pub ShowsBy : ℕ → ℕ → Shown → SliceMut ℕ → SliceMut Float → ℕ → Type 0
ShowsBy k f s kinds fields r = Shows (few k f kinds.entry.now fields.entry.now) s kinds.entry.now fields.entry.now r kinds.exit.now fields.exit.now
