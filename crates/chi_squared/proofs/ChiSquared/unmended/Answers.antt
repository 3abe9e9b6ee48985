-- At k = 1 the outcome is that of the draw read, with its value squared; else it is Gamma's.
use mathlib.Core.Path.{◌≡◌, sym, ◌∙◌}
use mathlib.Core.Bool.{true}
use Rattle.draws.proofs.Exits.{handed, as_lent}
use Rattle.draws.specs.Draws.{Lent, placed, read, Draw}
use Rattle.draws.specs.Search.{finished, as_sample}
use Rattle.draws.specs.declared.Positions.{Positions}
use Rattle.draws.specs.declared.Kind.TheVariants.{Normal}
use Rattle.gamma.proofs.Exact.{keeps}
use Rattle.chi_squared.specs.declared.ChiSquared.{ChiSquared}
use Rattle.chi_squared.specs.declared.ChiSquared.TheVariants.{DoFExactlyOne}
use Rattle.chi_squared.specs.ChiSquared.{squared, chi_of}
use Rattle.chi_squared.proofs.ChiSquared.unmended.Goals as goal

by_draw : (l : Lent) (p : Positions) {s : ChiSquared} → s ≡ DoFExactlyOne → placed l p ≡ true → {d : Draw} → read Normal l.normals p ≡ d → finished squared p (as_sample p d) ≡ chi_of s l p
unfolding chi_of
by_draw l p e b d = rw (e, b, d)

pub returns-then-not-placed : goal.returns-then-not-placed
unfolding chi_of
returns-then-not-placed c = rw (c.in-DoFExactlyOne.is, sym c.placed.ensures ∙ c.if-not-placed.true)

pub returns-in_err-norm-in-DoFExactlyOne : goal.returns-in_err-norm-in-DoFExactlyOne
returns-in_err-norm-in-DoFExactlyOne c =
    rw (handed c.from_residual.ensures)
    (by_draw _ _ c.in-DoFExactlyOne.is (sym c.placed.ensures ∙ c.if-not-placed.false) (sym c.read.ensures ∙ c.in_err-norm-in-DoFExactlyOne.was))

pub returns-in_ok-norm-in-DoFExactlyOne : goal.returns-in_ok-norm-in-DoFExactlyOne
returns-in_ok-norm-in-DoFExactlyOne c =
    by_draw _ _ c.in-DoFExactlyOne.is (sym c.placed.ensures ∙ c.if-not-placed.false) (sym c.read.ensures ∙ c.in_ok-norm-in-DoFExactlyOne.was)

pub returns-in_err-sample-in-DoFAnythingElse : goal.returns-in_err-sample-in-DoFAnythingElse
unfolding chi_of
returns-in_err-sample-in-DoFAnythingElse c =
    let e = sym c.sample.ensures ∙ c.in_err-sample-in-DoFAnythingElse.was in
    rw (handed c.from_residual-in_err-sample-in-DoFAnythingElse.ensures, c.in-DoFAnythingElse.is) (as_lent (keeps _ _ _ e) ∙ sym e)

pub returns-in_ok-sample-in-DoFAnythingElse : goal.returns-in_ok-sample-in-DoFAnythingElse
unfolding chi_of
returns-in_ok-sample-in-DoFAnythingElse c = rw c.in-DoFAnythingElse.is (sym c.in_ok-sample-in-DoFAnythingElse.was ∙ c.sample.ensures)
