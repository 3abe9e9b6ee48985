-- Document 01, 'Sampler rules', StudentT(nu). Definitions only.
use Rattle.std.specs.Prelude.{cond, ℕ, Result, Ok, Err, Float}
use Rattle.kernels.specs.Numbers.{◌⊗◌, ◌⊘◌}
use Rattle.kernels.specs.Sqrt.{sqrt_of}
use Rattle.draws.specs.Draws.{Lent, placed, Next, NotNext, read, Drawn}
use Rattle.draws.specs.Refusals.{number_by}
use Rattle.draws.specs.Search.{finished, chain, Chained, ChainHalted, as_sample}
use Rattle.draws.specs.declared.{Positions.Positions, Kind.TheVariants.Normal, Refusal.Refusal, Refusal.TheVariants.Above}
use Rattle.chi_squared.specs.ChiSquared.{error_number, chi_made, chi_of, ChiFound, ChiHalted, ParametersFound as ChiParametersFound, Made as ChiMade}
use Rattle.chi_squared.specs.declared.Error.{Error}
use Rattle.student_t.specs.declared.StudentT.{StudentT}

-- the constructor is chi-squared's, and keeps nu; '5 | chi-squared or Student'
abbrev pub Made : Type 0
Made = Result StudentT Error

abbrev pub made_case : Float → ChiMade → Made
made_case nu (Ok c) = Ok (record { chi = c; dof = nu })
made_case nu (Err e) = Err e

unfoldable pub student_made : Float → Made
student_made nu = made_case nu (chi_made nu)

abbrev pub number_of : Made → ℕ
number_of = number_by error_number

-- 'a normal first, then chi; norm·sqrt(nu/chi)'
abbrev pub student_value : Float → Float → Float → Float
student_value nu norm c = norm ⊗ sqrt_of (nu ⊘ c)

unfoldable pub student_of : StudentT → Lent → Positions → Drawn
student_of t l p = cond (placed l p) (chain p (as_sample p (read Normal l.normals p)) (λ norm q. finished (student_value t.dof norm) q (chi_of t.chi l q))) (Err (Above, p))

-- Which draws a sample used, by number: the next normal, and from past it chi-squared's own, at whose end this sample ends
abbrev pub StudentFound : StudentT → Lent → Positions → Float → Positions → Type 0
StudentFound t l = Chained (student_value t.dof) (Next Normal l) (ChiFound t.chi l)

-- the other outcome: the normal's refusal; or, the normal being had, chi-squared's from past it
abbrev pub StudentHalted : StudentT → Lent → Positions → Refusal → Type 0
StudentHalted t l = ChainHalted (Next Normal l) (NotNext Normal l) (ChiHalted t.chi l)

-- which draws a sample used, said of nu itself
abbrev pub ParametersFound : Float → Lent → Positions → Float → Positions → Type 0
ParametersFound nu l = Chained (student_value nu) (Next Normal l) (ChiParametersFound nu l)
