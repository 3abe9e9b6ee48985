-- Document 01, 'Sampler rules', Pert. Definitions only.
use Rattle.std.specs.Prelude.{ℕ, ◌≡◌, Bool, true, false, ◌&&◌, Float, Result, Err, Ok}
use Rattle.std.specs.Float.Ieee.{lt, le}
use Rattle.kernels.specs.Numbers.{◌⊕◌, ◌⊖◌, ◌⊗◌, ◌⊘◌, quotient, nought, one, two}
use Rattle.draws.specs.Draws.{Lent, Drawn}
use Rattle.draws.specs.Search.{finished}
use Rattle.draws.specs.declared.{Positions.Positions}
use Rattle.beta.specs.Beta.{beta_made, beta_of, BetaFound, Made as BetaMade}
use Rattle.pert.specs.declared.{Pert.Pert, PertBuilder.PertBuilder, Error.Error, Error.TheVariants.RangeTooSmall, Error.TheVariants.ModeRange, Error.TheVariants.ShapeTooSmall}

-- what the builder answers: the sampler, or refusal 8, 9 or 10
abbrev pub Made : Type 0
Made = Result Pert Error

-- 'Default shape 4.'
unfoldable pub builder : Float → Float → PertBuilder
builder min max = record { min = min; max = max; shape = quotient 4 1 }

abbrev pub shaped : PertBuilder → Float → PertBuilder
shaped b shape = record { min = b.min; max = b.max; shape = shape }

-- 'a Beta refusal is 8'
abbrev pub beta_case : Float → Float → BetaMade → Made
beta_case min range (Ok g) = Ok (record { min = min; range = range; beta = g })
beta_case min range (Err e) = Err RangeTooSmall

-- 'checks range, mode, shape in that order', by the answers to the tests
abbrev pub checked : Bool → Bool → Bool → Made → Made
checked false mode shape m = Err RangeTooSmall
checked true false shape m = Err ModeRange
checked true true false m = Err ShapeTooSmall
checked true true true m = m

-- 'then forms v = 1 + shape·(mode-min)/range and w likewise with max-mode'
unfoldable pub mode_made : PertBuilder → Float → Made
mode_made b mode =
    let range = b.max ⊖ b.min in
    let v = one ⊕ b.shape ⊗ (mode ⊖ b.min) ⊘ range in
    let w = one ⊕ b.shape ⊗ (b.max ⊖ mode) ⊘ range in
    checked (lt b.min b.max) (le b.min mode && le mode b.max) (le nought b.shape) (beta_case b.min range (beta_made v w))

-- 'with_mean takes mode = (((shape+2)·mean - min) - max)/shape'
unfoldable pub mean_made : PertBuilder → Float → Made
mean_made b mean = mode_made b ((((b.shape ⊕ two) ⊗ mean ⊖ b.min) ⊖ b.max) ⊘ b.shape)

-- '8, 9, 10 | Pert range (also a Beta refused after all three checks), mode, shape'
abbrev pub error_number : Error → ℕ
error_number RangeTooSmall = 8
error_number ModeRange = 9
error_number ShapeTooSmall = 10

-- a constructor's number, 0 where it is not refused
abbrev pub number_of : Made → ℕ
number_of (Ok t) = 0
number_of (Err e) = error_number e

-- 'Sample beta·range + min.'
abbrev pub pert_value : Pert → Float → Float
pert_value t b = b ⊗ t.range ⊕ t.min

unfoldable pub pert_of : Pert → Lent → Positions → Drawn
pert_of t l p = finished (pert_value t) p (beta_of t.beta l p)

-- which draws a sample used, by number: those up to the trial that Beta's sentence finds
abbrev pub PertFound : Pert → Lent → Positions → Float → Positions → Type 0
PertFound t l p v q = (b : Float) × BetaFound t.beta l p b q × (v ≡ pert_value t b)
