-- 'Filling a slice takes samples in order. An empty output uses nothing.' Over any samplers: from positions to what is drawn there. Definitions only.
use Rattle.std.specs.Prelude.{ℕ, zero, suc, ◌<◌, List, [], ◌∷◌, ◌++◌, ◌≡◌, Bool, true, false, length, get_or, replicate, Float, Err, Ok}
use Rattle.std.specs.Float.{nan}
use Rattle.kernels.specs.Numbers.{nought}
use Rattle.draws.specs.declared.{Positions.Positions, Refusal.Refusal, Refusal.TheVariants.Above}
use Rattle.draws.specs.Draws.{Drawn, Filled}

-- all the samples' values and the positions past their draws, or the refusal of the first sample that was refused
pub data Samples : Type 0 where
  all : List Float → Positions → Samples
  stopped : Refusal → Samples

abbrev pub ahead : List Float → Samples → Samples
ahead vs (all ws q) = all (vs ++ ws) q
ahead vs (stopped r) = stopped r

abbrev pub then : Drawn → (Positions → Samples) → Samples
then (Ok (v, q)) f = ahead (v ∷ []) (f q)
then (Err (r, q)) f = stopped r

-- n samples in order from p on, each by the sampler of its index, the first by that of index i
unfoldable pub samples : (ℕ → Positions → Drawn) → ℕ → ℕ → Positions → Samples
samples s i zero p = all [] p
samples s i (suc n) p = then (s i p) (λ q. samples s (suc i) n q)

-- f of all their values
abbrev pub given : (List Float → List Float) → Samples → Samples
given f (all vs q) = all (f vs) q
given f (stopped r) = stopped r

-- 'after 18 or 19 every element of the output is +0', and the positions are as lent
abbrev pub filled_by : Positions → Samples → Filled
filled_by p (all vs q) = Ok q
filled_by p (stopped r) = Err (r, p)

abbrev pub cells_of : ℕ → Samples → List Float
cells_of n (all vs q) = vs
cells_of n (stopped r) = replicate n nought

-- a fill has one sampler, whatever the index
abbrev pub each : (Positions → Drawn) → ℕ → Positions → Drawn
each s i = s

-- 'Numbers up to 17 leave an output as lent': what a fill of out answers and leaves there, b saying that no position is above its slice
abbrev pub fill_answer : Bool → (Positions → Drawn) → Positions → List Float → Filled
fill_answer true s p out = filled_by p (samples (each s) 0 (length out) p)
fill_answer false s p out = Err (Above, p)

abbrev pub fill_cells : Bool → (Positions → Drawn) → Positions → List Float → List Float
fill_cells true s p out = cells_of (length out) (samples (each s) 0 (length out) p)
fill_cells false s p out = out

pub record Fills (b : Bool) (s : Positions → Drawn) (p : Positions) (out : List Float) (r : Filled) (left : List Float) : Type 0 where
  pub answer_is : r ≡ fill_answer b s p out
  pub cells_are : left ≡ fill_cells b s p out

-- n samples by number, each found where the one before it ended: S i is what is said of sample i, where it starts, its value and where it ends
pub record InTurn (S : ℕ → Positions → Float → Positions → Type 0) (n : ℕ) (p : Positions) (vs : List Float) (q : Positions) : Type 0 where
  pub starts : ℕ → Positions
  pub first : starts 0 ≡ p
  pub each : (i : ℕ) → i < n → S i (starts i) (get_or vs i nan) (starts (suc i))
  pub last : q ≡ starts n
  pub count : length vs ≡ n

-- The other outcome: the first of n samples that can't be had. Those before it are found in turn, and H i is what is said of a refusal of sample i:
-- where it starts, and why it is refused.
pub record FirstLacking (S : ℕ → Positions → Float → Positions → Type 0) (H : ℕ → Positions → Refusal → Type 0) (n : ℕ) (p : Positions) (r : Refusal) : Type 0 where
  pub at : ℕ
  pub within : at < n
  pub values : List Float
  pub ends : Positions
  pub before : InTurn S at p values ends
  pub lacks : H at ends r
