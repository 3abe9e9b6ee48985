-- A report: on entry the positions that a caller lends, on return the refusal's number, kind and index and the positions. Definitions only.
use Rattle.std.specs.Prelude.{ℕ, List, ◌∷◌, ◌≡◌, Bool, true, false, cond, Option, Some, None, Ok, Err, length, get_or, drop, ltb}
use Rattle.draws.specs.Draws.{place, places, Filled}
use Rattle.draws.specs.Promises.{SliceMut}
use Rattle.draws.specs.Refusals.{named, numbered as numbered_of}
use Rattle.draws.specs.declared.{numbers.Named.Named, Positions.Positions, Kind.TheVariants.Uniform, Kind.TheVariants.Normal, Kind.TheVariants.Exponential}

-- returned where a lent array is too short, and nothing is touched: no number of document 01
abbrev pub short : ℕ
short = 255

-- no room for the answer
abbrev pub cramped : List ℕ → Bool
cramped report = ltb (length report) 6

-- 'and a position in each': cells 3, 4 and 5
abbrev pub lent_at : List ℕ → Positions
lent_at report = places (get_or report 3 0) (get_or report 4 0) (get_or report 5 0)

-- where a call starts: none where a lent array is too short, as b says
abbrev pub Start : Type 0
Start = Option Positions

abbrev pub start_by : Bool → List ℕ → Start
start_by true report = None
start_by false report = Some (lent_at report)

-- 'each 0 where the table names none': a constructor's refusal has a number alone; 0 where nothing was refused
abbrev pub numbered : ℕ → Named
numbered n = numbered_of n 0

-- 'A refusal carries its number, kind, index .., and the positions': the first six cells, in this order; the others are as lent
abbrev pub cells : Named → Positions → List ℕ → List ℕ
cells w p report = w.number ∷ w.kind ∷ w.index ∷ place Uniform p ∷ place Normal p ∷ place Exponential p ∷ drop 6 report

-- what is returned and every cell of the report, b saying that a lent array is too short
pub record Tells (b : Bool) (w : Named) (p : Positions) (report : List ℕ) (r : ℕ) (left : List ℕ) : Type 0 where
  pub number_is : r ≡ cond b short w.number
  pub report_is : left ≡ cond b report (cells w p report)

-- a fill's answer: what it is called, and the positions p, those as lent, where it is a refusal
abbrev pub filled_named : Filled → Named
filled_named (Ok q) = numbered 0
filled_named (Err (r, q)) = named r

abbrev pub filled_at : Positions → Filled → Positions
filled_at p (Ok q) = q
filled_at p (Err (r, q)) = p

-- ---- as a promise names it: the positions that a report lends, and what it holds in the end
abbrev pub lent_in : SliceMut ℕ → Positions
lent_in report = lent_at report.entry.now

abbrev pub TellsBy : Named → Positions → SliceMut ℕ → ℕ → Type 0
TellsBy w p report r = Tells (cramped report.entry.now) w p report.entry.now r report.exit.now
