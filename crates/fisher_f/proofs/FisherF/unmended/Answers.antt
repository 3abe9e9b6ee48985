-- The numerator's outcome, then the denominator's from where it ended; a refusal of either has the positions as lent.
use mathlib.Core.Path.{◌≡◌, sym, ◌∙◌}
use lib.Ieee.{Float}
use Rattle.std.specs.Prelude.{Ok, Err}
use Rattle.draws.specs.Draws.{Lent, Drawn}
use Rattle.draws.specs.Search.{finished}
use Rattle.draws.specs.declared.Positions.{Positions}
use Rattle.draws.specs.declared.Refusal.{Refusal}
use Rattle.draws.proofs.Exits.{handed}
use Rattle.draws.proofs.Stages.{both_is}
use Rattle.chi_squared.specs.ChiSquared.{chi_of}
use Rattle.fisher_f.specs.declared.FisherF.{FisherF}
use Rattle.fisher_f.specs.FisherF.{fisher_value, fisher_of}
use Rattle.fisher_f.proofs.FisherF.unmended.Goals as goal

module _ (f : FisherF) (l : Lent) (p : Positions) where
  no_numerator : {r : Refusal} {q : Positions} → chi_of f.numer l p ≡ Err (r, q) → ◌≡◌ {A = Drawn} (Err (r, p)) (fisher_of f l p)
  unfolding fisher_of
  no_numerator e = rw e

  by_both : {n : Float} {m : Positions} → chi_of f.numer l p ≡ Ok (n, m) → {d : Drawn} → chi_of f.denom l m ≡ d → finished (fisher_value f.dof_ratio n) p d ≡ fisher_of f l p
  unfolding fisher_of
  by_both e h = both_is (fisher_value f.dof_ratio) (chi_of f.denom l) p e h

pub returns-in_err-n : goal.returns-in_err-n
returns-in_err-n c = rw (handed c.from_residual.ensures) (no_numerator _ _ _ (sym c.sample.ensures ∙ c.in_err-n.was))

pub returns-in_err-d : goal.returns-in_err-d
returns-in_err-d c =
    rw (handed c.from_residual-in_err-d.ensures) (by_both _ _ _ (sym c.sample.ensures ∙ c.in_ok-n.was) (sym c.sample-2.ensures ∙ c.in_err-d.was))

pub returns : goal.returns
returns c = by_both _ _ _ (sym c.sample.ensures ∙ c.in_ok-n.was) (sym c.sample-2.ensures ∙ c.in_ok-d.was)
