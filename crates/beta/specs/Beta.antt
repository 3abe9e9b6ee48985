-- Document 01, 'Sampler rules', Beta(a0, b0), in the document's order, with the step numbers of beta.rs. Definitions only.
use Rattle.std.specs.Prelude.{ℕ, ◌+◌, ◌*◌, Bool, true, false, cond, not, ◌&&◌, length, Float, Result, Err, Ok}
use Rattle.std.specs.Float.{inf}
use Rattle.std.specs.Float.Ieee.{lt, eq}
use Rattle.kernels.specs.Numbers.{◌⊕◌, ◌⊘◌, nought, one}
use Rattle.draws.specs.Draws.{Lent, place, past, placed, usable, there, nth, refusal_at, Drawn}
use Rattle.draws.specs.Search.{Trials, Found, Halted, searched}
use Rattle.draws.specs.declared.{Positions.Positions, Kind.TheVariants.Uniform, Refusal.Refusal, Refusal.TheVariants.Above}
use Rattle.beta.specs.declared.algorithm.BetaAlgorithm.TheVariants as algorithm
use Rattle.beta.specs.Algorithm.{bb_made, bc_made, accepts_of, w_at, b_at}
use Rattle.beta.specs.declared.{Beta.Beta, Error.Error, Error.TheVariants.AlphaTooSmall, Error.TheVariants.BetaTooSmall}

-- ---- the constructor
-- what it answers: the sampler, or refusal 3 or 4
abbrev pub Made : Type 0
Made = Result Beta Error

-- 'If a > 1, kind BB .. Otherwise kind BC: swap a and b, flip the switch'
unfoldable pub sorted_case : Bool → Float → Float → Bool → Beta
sorted_case true a b s = record { switched_params = s; algorithm = algorithm.BB (bb_made a b) }
sorted_case false a b s = record { switched_params = not s; algorithm = algorithm.BC (bc_made b a) }

unfoldable pub sorted_made : Float → Float → Bool → Beta
sorted_made a b s = sorted_case (lt one a) a b s

-- 'If a0 < b0 then a = a0, b = b0, unswitched; else a = b0, b = a0, switched.'
unfoldable pub ordered : Bool → Float → Float → Beta
ordered true a0 b0 = sorted_made a0 b0 false
ordered false a0 b0 = sorted_made b0 a0 true

-- '3, 4 | Beta alpha, then beta, not above 0'
unfoldable pub made_case : Bool → Bool → Beta → Made
made_case false c g = Err AlphaTooSmall
made_case true false g = Err BetaTooSmall
made_case true true g = Ok g

unfoldable pub beta_made : Float → Float → Made
beta_made a0 b0 = made_case (lt nought a0) (lt nought b0) (ordered (lt a0 b0) a0 b0)

-- a refusal's number
abbrev pub error_number : Error → ℕ
error_number AlphaTooSmall = 3
error_number BetaTooSmall = 4

-- a constructor's number, 0 where it is not refused
abbrev pub number_of : Made → ℕ
number_of (Ok g) = 0
number_of (Err e) = error_number e

-- ---- a trial
-- 'Unswitched: 1 if w is plus infinity, else w/(b+w). Switched: b/(b+w).'
unfoldable pub final_case : Bool → Bool → Float → Float → Float
final_case true i b w = b ⊘ (b ⊕ w)
final_case false true b w = one
final_case false false b w = w ⊘ (b ⊕ w)

unfoldable pub final_of : Beta → Float → Float
final_of g w = final_case g.switched_params (eq w (inf false)) (b_at g.algorithm) w

-- 'Trial k reads uniforms 2k and 2k+1 as u1, u2, always both.' 'A Beta sample accepted at trial k uses exactly 2k + 2 uniforms.'
module _ (g : Beta) (l : Lent) (p : Positions) where
  abbrev pub u1_at : ℕ → Float
  u1_at k = nth Uniform l p (2 * k)

  abbrev pub u2_at : ℕ → Float
  u2_at k = nth Uniform l p (2 * k + 1)

  abbrev pub first_usable : ℕ → Bool
  first_usable k = there Uniform l p (2 * k) && usable Uniform (u1_at k)

  unfoldable pub beta_trials : Trials
  beta_trials = record {
    whole = λ k. there Uniform l p (2 * k) && there Uniform l p (2 * k + 1);
    usable = λ k. usable Uniform (u1_at k) && usable Uniform (u2_at k);
    accepted = λ k. accepts_of g.algorithm (u1_at k) (u2_at k);
    value = λ k. final_of g (w_at g.algorithm (u1_at k));
    after = λ k. past Uniform (2 * k + 2) p;
    refusal = λ k. cond (first_usable k) (refusal_at Uniform l.uniforms (place Uniform p + (2 * k + 1))) (refusal_at Uniform l.uniforms (place Uniform p + 2 * k));
    examined = λ k. past Uniform (2 * k + cond (first_usable k) 2 1) p;
  }

-- ---- sampling, as a rule that computes: a whole trial has its uniforms, so there are fewer than the slice is long
unfoldable pub beta_of : Beta → Lent → Positions → Drawn
beta_of g l p = cond (placed l p) (searched (beta_trials g l p) p (length l.uniforms)) (Err (Above, p))

-- ---- demand 3's sentence for Beta: no search is run here
abbrev pub BetaFound : Beta → Lent → Positions → Float → Positions → Type 0
BetaFound g l p v q = Found (beta_trials g l p) v q

-- the other outcome, r being the refusal
abbrev pub BetaHalted : Beta → Lent → Positions → Refusal → Type 0
BetaHalted g l p r = Halted (beta_trials g l p) r

-- the same, of the parameters: of the sampler that they make
abbrev pub ParametersFound : Float → Float → Lent → Positions → Float → Positions → Type 0
ParametersFound a0 b0 l p v q = BetaFound (ordered (lt a0 b0) a0 b0) l p v q
