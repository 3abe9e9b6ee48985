-- Document 01, 'Numbered refusals': the number, kind and index of a refusal, 0 where the table names none. Definitions only.
use Rattle.std.specs.Prelude.{ℕ, Result, Ok, Err}
use Rattle.draws.specs.declared.{Kind.Kind, Kind.TheVariants.Uniform, Kind.TheVariants.Normal, Kind.TheVariants.Exponential, Refusal.Refusal, Refusal.TheVariants.Above, Refusal.TheVariants.Unusable, Refusal.TheVariants.Absent, numbers.Named.Named}

-- 'kind (1 uniform, 2 normal, 3 exponential)'
abbrev pub kind_number : Kind → ℕ
kind_number Uniform = 1
kind_number Normal = 2
kind_number Exponential = 3

-- 'each 0 where the table names none': a refusal of no draw has no kind
abbrev pub numbered : ℕ → ℕ → Named
numbered n i = record { number = n; kind = 0; index = i }

-- '17 | a position above its slice's length' and '18, 19 | next draw unusable, absent; kind and its index in the lent slice'
abbrev pub named : Refusal → Named
named Above = numbered 17 0
named (Unusable k i) = record { number = 18; kind = kind_number k; index = i }
named (Absent k i) = record { number = 19; kind = kind_number k; index = i }

-- a constructor's number, 0 where it is not refused, n being the number of each refusal
abbrev pub number_by : {A E : Type 0} → (E → ℕ) → Result A E → ℕ
number_by n (Ok a) = 0
number_by n (Err e) = n e
