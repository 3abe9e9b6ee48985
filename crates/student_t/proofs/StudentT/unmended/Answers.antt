-- The normal read, then chi-squared's outcome from just past it; a refusal of either has the positions as lent.
use mathlib.Core.Path.{◌≡◌, refl, sym, ◌∙◌}
use mathlib.Core.Bool.{true}
use lib.Ieee.{Float}
use Rattle.std.specs.Prelude.{Ok, Err}
use Rattle.draws.specs.Draws.{Lent, placed, read, Drawn}
use Rattle.draws.specs.Search.{finished}
use Rattle.draws.specs.declared.Positions.{Positions}
use Rattle.draws.specs.declared.Kind.TheVariants.{Normal}
use Rattle.draws.specs.declared.Refusal.{Refusal}
use Rattle.draws.proofs.Exits.{handed}
use Rattle.draws.proofs.Stages.{both_is}
use Rattle.chi_squared.specs.ChiSquared.{chi_of}
use Rattle.student_t.specs.declared.StudentT.{StudentT}
use Rattle.student_t.specs.StudentT.{student_value, student_of}
use Rattle.student_t.proofs.StudentT.unmended.Goals as goal

module _ (t : StudentT) (l : Lent) (p : Positions) (b : placed l p ≡ true) where
  no_normal : {r : Refusal} → read Normal l.normals p ≡ Err r → ◌≡◌ {A = Drawn} (Err (r, p)) (student_of t l p)
  unfolding student_of
  no_normal e = rw (b, e)

  by_chi_lem : {norm : Float} {m : Positions} → read Normal l.normals p ≡ Ok (norm, m) → {x : Drawn} → chi_of t.chi l m ≡ x → finished (student_value t.dof norm) p x ≡ student_of t l p
  unfolding student_of
  by_chi_lem e h = rw (b, e) (both_is (student_value t.dof) (chi_of t.chi l) p refl h)

pub returns-then-not-placed : goal.returns-then-not-placed
unfolding student_of
returns-then-not-placed c = rw (sym c.placed.ensures ∙ c.if-not-placed.true)

pub returns-in_err-norm : goal.returns-in_err-norm
returns-in_err-norm c =
    rw (handed c.from_residual.ensures)
    (no_normal _ _ _ (sym c.placed.ensures ∙ c.if-not-placed.false) (sym c.read.ensures ∙ c.in_err-norm.was))

pub returns-in_err-chi : goal.returns-in_err-chi
returns-in_err-chi c =
    rw (handed c.from_residual-in_err-chi.ensures)
    (by_chi_lem _ _ _ (sym c.placed.ensures ∙ c.if-not-placed.false) (sym c.read.ensures ∙ c.in_ok-norm.was) (sym c.sample.ensures ∙ c.in_err-chi.was))

pub returns : goal.returns
returns c =
    rw c.sqrt.ensures
    (by_chi_lem _ _ _ (sym c.placed.ensures ∙ c.if-not-placed.false) (sym c.read.ensures ∙ c.in_ok-norm.was) (sym c.sample.ensures ∙ c.in_ok-chi.was))
