-- Chi-squared's refusal, or its sampler and nu, which `one_nan` gives back.
use mathlib.Core.Path.{◌≡◌, sym, ◌∙◌}
use lib.Ieee.{Float}
use Rattle.draws.proofs.Exits.{handed}
use Rattle.chi_squared.specs.ChiSquared.{Made, chi_made}
use Rattle.student_t.specs.StudentT.{made_case, student_made}
use Rattle.student_t.proofs.StudentT.new.Goals as goal

by_chi_lem : (nu : Float) {m : Made} → chi_made nu ≡ m → made_case nu m ≡ student_made nu
unfolding student_made
by_chi_lem nu e = rw e

pub returns-in_err-chi : goal.returns-in_err-chi
returns-in_err-chi c = rw (handed c.from_residual.ensures) (by_chi_lem _ (sym c.new.ensures ∙ c.in_err-chi.was))

pub returns : goal.returns
returns c = rw c.one_nan.ensures (by_chi_lem _ (sym c.new.ensures ∙ c.in_ok-chi.was))
