-- Document 01, 'Sampler rules', ChiSquared(k). Definitions only.
use Rattle.std.specs.Prelude.{ℕ, ◌≡◌, Bool, true, false, cond, Result, Ok, Err, Float}
use Rattle.std.specs.Float.Ieee.{lt, eq}
use Rattle.kernels.specs.Numbers.{◌⊗◌, nought, one, two, half}
use Rattle.draws.specs.Draws.{Lent, placed, Next, NotNext, read, Drawn}
use Rattle.draws.specs.Refusals.{number_by}
use Rattle.draws.specs.Search.{finished, as_sample}
use Rattle.draws.specs.declared.{Positions.Positions, Kind.TheVariants.Normal, Refusal.Refusal, Refusal.TheVariants.Above}
use Rattle.gamma.specs.Gamma.{sampler, gamma_of, GammaFound, GammaHalted, ParametersFound as GammaParametersFound}
use Rattle.chi_squared.specs.declared.{ChiSquared.ChiSquared, ChiSquared.TheVariants.DoFExactlyOne, ChiSquared.TheVariants.DoFAnythingElse, Error.Error, Error.TheVariants.DoFTooSmall}

abbrev pub Made : Type 0
Made = Result ChiSquared Error

-- 'k = 1: a normal squared. Else Gamma(0.5·k, 2) if 0.5·k > 0', by the answers to the tests; '5 | .. not k = 1 and not 0.5·k > 0'
unfoldable pub made_case : Bool → Bool → Float → Made
made_case true b k = Ok DoFExactlyOne
made_case false true k = Ok (DoFAnythingElse (sampler (half ⊗ k) two))
made_case false false k = Err DoFTooSmall

unfoldable pub chi_made : Float → Made
chi_made k = made_case (eq k one) (lt nought (half ⊗ k)) k

abbrev pub error_number : Error → ℕ
error_number DoFTooSmall = 5

-- a constructor's number, 0 where it is not refused
abbrev pub number_of : Made → ℕ
number_of = number_by error_number

-- sampling: the next normal, squared; or a sample of Gamma
abbrev pub squared : Float → Float
squared x = x ⊗ x

unfoldable pub chi_of : ChiSquared → Lent → Positions → Drawn
chi_of DoFExactlyOne l p = cond (placed l p) (finished squared p (as_sample p (read Normal l.normals p))) (Err (Above, p))
chi_of (DoFAnythingElse g) l p = gamma_of g l p

-- Which draws a sample used, by number; no search is run here. v is the sample, q where it ends: the next normal, squared; or Gamma's sentence.
abbrev pub Squared : Lent → Positions → Float → Positions → Type 0
Squared l p v q = (x : Float) × Next Normal l p x q × (v ≡ squared x)

abbrev pub ChiFound : ChiSquared → Lent → Positions → Float → Positions → Type 0
ChiFound DoFExactlyOne l p v q = Squared l p v q
ChiFound (DoFAnythingElse g) l p v q = GammaFound g l p v q

-- the other outcome, r being the refusal: the next normal's; or Gamma's
abbrev pub ChiHalted : ChiSquared → Lent → Positions → Refusal → Type 0
ChiHalted DoFExactlyOne l p r = NotNext Normal l p r
ChiHalted (DoFAnythingElse g) l p r = GammaHalted g l p r

-- which draws a sample used, said of k by the answer to its first test
abbrev pub found_by : Bool → Float → Lent → Positions → Float → Positions → Type 0
found_by true k l p v q = Squared l p v q
found_by false k l p v q = GammaParametersFound (half ⊗ k) two l p v q

abbrev pub ParametersFound : Float → Lent → Positions → Float → Positions → Type 0
ParametersFound k = found_by (eq k one) k
