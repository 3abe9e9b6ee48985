-- The constructor is chi-squared's. A sample is a draw, then one of chi-squared's that starts where the draw left off, so that what is known of
-- those two is carried over.
use mathlib.Core.Path.{◌≡◌, sym, ◌∙◌}
use mathlib.Core.Bool.{cond}
use lib.Ieee.{Float}
use Rattle.draws.specs.Draws.{Lent, Drawn}
use Rattle.draws.specs.declared.Positions.{Positions}
use Rattle.draws.specs.declared.Kind.TheVariants.{Normal}
use Rattle.draws.specs.Later.{Steady}
use Rattle.draws.proofs.Sequencing.{steady_chain, steady_draw, steady_finished, steady_placed}
use Rattle.draws.proofs.Stages.{of_cond}
use Rattle.chi_squared.proofs.Laws as chi-laws
use Rattle.chi_squared.proofs.Laws.{too_small, chi_sampler}
use Rattle.student_t.specs.declared.StudentT.{StudentT}
use Rattle.student_t.specs.StudentT.{made_case, student_made, number_of, student_value, student_of}
use Rattle.chi_squared.specs.declared.Error.TheVariants.{DoFTooSmall}
use Rattle.std.specs.Prelude.{Err, Ok}

-- ---- the constructor
-- the sampler of a nu that rule 5 does not refuse
abbrev pub student_sampler : Float → StudentT
student_sampler nu = record { chi = chi_sampler nu; dof = nu }

module _ (nu : Float) where
  pub made_is : student_made nu ≡ cond (too_small nu) (Err DoFTooSmall) (Ok (student_sampler nu))
  unfolding student_made
  made_is = rw (chi-laws.made_is nu) (of_cond (made_case nu) (too_small nu) _ _)

  -- '5 | chi-squared or Student: not k = 1 and not 0.5·k > 0'
  pub made_number : number_of (student_made nu) ≡ cond (too_small nu) 5 0
  made_number = rw made_is (of_cond number_of (too_small nu) _ _)

-- ---- a sample
module _ (t : StudentT) where
  -- a refusal keeps the positions, a sample's are further on, and draws beyond those change nothing in it
  pub steady : Steady (student_of t)
  unfolding student_of
  steady = steady_placed (steady_chain (steady_draw Normal) (λ norm. steady_finished (student_value t.dof norm) (chi-laws.steady t.chi)))

  module _ (l : Lent) (p : Positions) where
    pub one_outcome : {d d' : Drawn} → d ≡ student_of t l p → d' ≡ student_of t l p → d ≡ d'
    one_outcome e i = e ∙ sym i
