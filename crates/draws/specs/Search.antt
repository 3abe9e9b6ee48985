-- A search over trials that are spoken of by their numbers: the first that is not rejected settles it. Definitions only.
use Rattle.std.specs.Prelude.{ℕ, zero, suc, ◌<◌, ◌≡◌, Bool, true, false, Float, Err, None, Ok, Some}
use Rattle.draws.specs.declared.{Positions.Positions, Refusal.Refusal, Refusal.TheVariants.Above}
use Rattle.draws.specs.Draws.{Draw, Drawn, Trial}

-- What is said of trial k: its draws are all there; each of them is usable; it is accepted; its value; the positions past the draws of the
-- trials up to it; and, where a draw of it is absent or unusable, the refusal, and the positions past the draws that were examined till then.
pub record Trials : Type 0 where
  pub whole : ℕ → Bool
  pub usable : ℕ → Bool
  pub accepted : ℕ → Bool
  pub value : ℕ → Float
  pub after : ℕ → Positions
  pub refusal : ℕ → Refusal
  pub examined : ℕ → Positions

-- Demand 3's sentence: 'some whole, usable, accepted trial stands in the draws with every earlier trial whole, usable and rejected; value and
-- positions are that trial's'
abbrev pub Takes : Trials → ℕ → Type 0
Takes t k = (t.whole k ≡ true) × (t.usable k ≡ true) × (t.accepted k ≡ true)

abbrev pub Rejects : Trials → ℕ → Type 0
Rejects t k = (t.whole k ≡ true) × (t.usable k ≡ true) × (t.accepted k ≡ false)

pub record Found (t : Trials) (v : Float) (q : Positions) : Type 0 where
  pub at : ℕ
  pub takes : Takes t at
  pub earlier : (j : ℕ) → j < at → Rejects t j
  pub value_is : v ≡ t.value at
  pub after_is : q ≡ t.after at

-- The other outcome: the first trial that is not whole or not usable, every earlier one whole, usable and rejected; r is its refusal
abbrev pub Halts : Trials → ℕ → Type 0
Halts t k = (t.whole k ≡ true) × (t.usable k ≡ true) → ⊥

pub record Halted (t : Trials) (r : Refusal) : Type 0 where
  pub at : ℕ
  pub halts : Halts t at
  pub earlier : (j : ℕ) → j < at → Rejects t j
  pub refusal_is : r ≡ t.refusal at

-- ---- the same, as a rule that computes: the outcome of a trial, and of trials in order
abbrev pub settled : Bool → Bool → Bool → Float → Positions → Refusal → Trial
settled false u a v q r = Err r
settled true false a v q r = Err r
settled true true false v q r = Ok (None, q)
settled true true true v q r = Ok (Some v, q)

abbrev pub trial : Trials → ℕ → Trial
trial t k = settled (t.whole k) (t.usable k) (t.accepted k) (t.value k) (t.after k) (t.refusal k)

-- From trial k on, whose outcome is given, at most f further trials; p are the positions as lent. Slices end, so f can be large enough.
unfoldable pub from : (ℕ → Trial) → Positions → ℕ → ℕ → Trial → Drawn
from t p zero k (Ok (Some v, q)) = Ok (v, q)
from t p zero k (Ok (None, q)) = Err (Above, p)
from t p zero k (Err r) = Err (r, p)
from t p (suc f) k (Ok (Some v, q)) = Ok (v, q)
from t p (suc f) k (Ok (None, q)) = from t p f (suc k) (t (suc k))
from t p (suc f) k (Err r) = Err (r, p)

abbrev pub searched : Trials → Positions → ℕ → Drawn
searched t p f = from (trial t) p f 0 (trial t 0)

-- the trials of another rule for the value
abbrev pub valued : (Float → Float) → Trials → Trials
valued f t = record {
  whole = t.whole;
  usable = t.usable;
  accepted = t.accepted;
  value = λ k. f (t.value k);
  after = t.after;
  refusal = t.refusal;
  examined = t.examined;
}

-- f of the value of a sample; a refusal has the positions p, those as lent
abbrev pub finished : (Float → Float) → Positions → Drawn → Drawn
finished f p (Ok (v, q)) = Ok (f v, q)
finished f p (Err (r, q)) = Err (r, p)

-- a second draw, which starts where the first left off; a refusal of either has the positions p, those as lent
abbrev pub chain : Positions → Drawn → (Float → Positions → Drawn) → Drawn
chain p (Ok (v, q)) f = finished (λ w. w) p (f v q)
chain p (Err (r, q)) f = Err (r, p)

-- Which draws two samples in order used, by number: F says which the first, G which the second, from the first's end on; the value is g of theirs
pub record Chained (g : Float → Float → Float) (F G : Positions → Float → Positions → Type 0) (p : Positions) (v : Float) (q : Positions) : Type 0 where
  pub first : Float
  pub second : Float
  pub between : Positions
  pub first_is : F p first between
  pub second_is : G between second q
  pub value_is : v ≡ g first second

-- The other outcome: the first is refused, as H says; or F finds it, and the second is refused from its end on, as K says
pub data ChainHalted (F : Positions → Float → Positions → Type 0) (H K : Positions → Refusal → Type 0) (p : Positions) (r : Refusal) : Type 0 where
  at_first : H p r → ChainHalted F H K p r
  at_second : {x : Float} {m : Positions} → F p x m → K m r → ChainHalted F H K p r

-- one draw, as a sample
abbrev pub as_sample : Positions → Draw → Drawn
as_sample p (Ok (x, q)) = Ok (x, q)
as_sample p (Err r) = Err (r, p)
