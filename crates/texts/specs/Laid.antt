-- Text laid into a buffer at a place: all of it where it fits from there on, and nothing where it doesn't. Definitions only.
use Rattle.std.specs.Prelude.{ℕ, ◌+◌, ◌≡◌, List, ◌++◌, Bool, cond, length, take, drop, leb}

abbrev pub fits : List ℕ → ℕ → List ℕ → Bool
fits o at t = leb (at + length t) (length o)

-- what buffer o holds once t is laid into it at `at`
unfoldable pub laid : List ℕ → ℕ → List ℕ → List ℕ
laid o at t = cond (fits o at t) (take at o ++ t ++ drop (at + length t) o) o

-- the place past t, or `at` again
unfoldable pub place_past : List ℕ → ℕ → List ℕ → ℕ
place_past o at t = cond (fits o at t) (at + length t) at

-- what every function that lays t promises of its answer r and of what it leaves in the buffer, p
pub record Lays (o : List ℕ) (at : ℕ) (t : List ℕ) (r : ℕ) (p : List ℕ) : Type 0 where
  pub place : r ≡ place_past o at t
  pub holds : p ≡ laid o at t
