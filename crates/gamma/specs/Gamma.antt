-- Document 01, 'Sampler rules', Gamma(shape, scale), in the document's order. Definitions only.
use Rattle.std.specs.Prelude.{ℕ, suc, ◌+◌, ◌≡◌, Bool, true, false, cond, ◌||◌, Result, Ok, Err, Float}
use Rattle.std.specs.Float.{inf}
use Rattle.std.specs.Float.Ieee.{lt, eq}
use Rattle.kernels.specs.Numbers.{◌⊘◌, nought, one}
use Rattle.draws.specs.Draws.{Lent, place, places, past, placed, nth, Had, NotNext, Drawn}
use Rattle.draws.specs.Refusals.{number_by}
use Rattle.draws.specs.Search.{Found, Halted, valued}
use Rattle.draws.specs.declared.{Positions.Positions, Kind.TheVariants.Uniform, Kind.TheVariants.Normal, Kind.TheVariants.Exponential, Refusal.Refusal, Refusal.TheVariants.Above}
use Rattle.gamma.specs.declared.{small.GammaSmallShape.GammaSmallShape, Gamma.Gamma, Gamma.TheVariants.One, Gamma.TheVariants.Small, Gamma.TheVariants.Large, Error.Error, Error.TheVariants.ShapeTooSmall, Error.TheVariants.ScaleTooSmall}
use Rattle.gamma.specs.Large.{large_made, used, large_trials, large_value, large_of}
use Rattle.gamma.specs.Small.{small_made, small_value, one_trials, one_of, small_of}

-- ---- the constructor
-- 'Either infinite: One with rate 0. Shape 1: One with rate 1/scale. Shape below 1: Small. Else Large.' 'One keeps 1/rate': by the answers to the tests
unfoldable pub kind_made : Bool → Bool → Bool → Float → Float → Gamma
kind_made true a b shape scale = One (one ⊘ nought)
kind_made false true b shape scale = One (one ⊘ (one ⊘ scale))
kind_made false false true shape scale = Small (small_made shape scale)
kind_made false false false shape scale = Large (large_made shape scale)

abbrev pub Made : Type 0
Made = Result Gamma Error

-- '1, 2 | Gamma shape, then scale, not above 0'
unfoldable pub made_case : Bool → Bool → Gamma → Made
made_case false b g = Err ShapeTooSmall
made_case true false g = Err ScaleTooSmall
made_case true true g = Ok g

-- the sampler of a shape and a scale above 0
abbrev pub sampler : Float → Float → Gamma
sampler shape scale = kind_made (eq shape (inf false) || eq scale (inf false)) (eq shape one) (lt shape one) shape scale

unfoldable pub gamma_made : Float → Float → Made
gamma_made shape scale = made_case (lt nought shape) (lt nought scale) (sampler shape scale)

abbrev pub error_number : Error → ℕ
error_number ShapeTooSmall = 1
error_number ScaleTooSmall = 2

-- a constructor's number, 0 where it is not refused
abbrev pub number_of : Made → ℕ
number_of = number_by error_number

-- ---- sampling, as a rule that computes
unfoldable pub kind_of : Gamma → Lent → Positions → Drawn
kind_of (One s) l p = one_of s l p
kind_of (Small g) l p = small_of g l p
kind_of (Large g) l p = large_of g l p

unfoldable pub gamma_of : Gamma → Lent → Positions → Drawn
gamma_of g l p = cond (placed l p) (kind_of g l p) (Err (Above, p))

-- ---- demand 3's sentence for Gamma: no search is run here. Small reads one uniform u0 first.
pub record SmallFound (g : GammaSmallShape) (l : Lent) (p : Positions) (v : Float) (q : Positions) : Type 0 where
  pub opening : Had Uniform l p
  pub found : Found (valued (small_value g (nth Uniform l p 0)) (large_trials g.large_shape l (past Uniform 1 p))) v q

abbrev pub GammaFound : Gamma → Lent → Positions → Float → Positions → Type 0
GammaFound (One s) l p v q = Found (one_trials s l p) v q
GammaFound (Small g) l p v q = SmallFound g l p v q
GammaFound (Large g) l p v q = Found (valued (large_value g) (large_trials g l p)) v q

-- Which draws it used. One: the next exponential. Large, accepted at trial k: k + 1 normals, and a uniform for each of those trials that read one. Small:
-- the same, and u0 before them.
abbrev pub Uses : (g : Gamma) (l : Lent) (p : Positions) (v : Float) (q : Positions) → GammaFound g l p v q → Type 0
Uses (One s) l p v q h = q ≡ places (place Uniform p) (place Normal p) (place Exponential p + 1)
Uses (Small g) l p v q h =
    let k = h.found.at in
    q ≡ places (place Uniform p + (1 + used g.large_shape l (past Uniform 1 p) (suc k))) (place Normal p + suc k) (place Exponential p)
Uses (Large g) l p v q h = q ≡ places (place Uniform p + used g l p (suc h.at)) (place Normal p + suc h.at) (place Exponential p)

-- The other outcome, r being the refusal: Small's u0 'absent or unusable, the call is refused before any trial'; else the first trial that is
-- not whole or not usable.
pub data SmallHalted (g : GammaSmallShape) (l : Lent) (p : Positions) (r : Refusal) : Type 0 where
  at_opening : NotNext Uniform l p r → SmallHalted g l p r
  past_opening : Had Uniform l p → Halted (large_trials g.large_shape l (past Uniform 1 p)) r → SmallHalted g l p r

abbrev pub GammaHalted : Gamma → Lent → Positions → Refusal → Type 0
GammaHalted (One s) l p r = Halted (one_trials s l p) r
GammaHalted (Small g) l p r = SmallHalted g l p r
GammaHalted (Large g) l p r = Halted (large_trials g l p) r

-- the positions past the draws that a refused call examined
abbrev pub examined_by : (g : Gamma) (l : Lent) (p : Positions) (r : Refusal) → GammaHalted g l p r → Positions
examined_by (One s) l p r h = (one_trials s l p).examined h.at
examined_by (Small g) l p r (at_opening n) = past Uniform 1 p
examined_by (Small g) l p r (past_opening o h) = (large_trials g.large_shape l (past Uniform 1 p)).examined h.at
examined_by (Large g) l p r h = (large_trials g l p).examined h.at

-- the same, of the parameters: of the sampler that they make
abbrev pub ParametersFound : Float → Float → Lent → Positions → Float → Positions → Type 0
ParametersFound shape scale = GammaFound (sampler shape scale)
