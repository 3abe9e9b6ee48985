-- Each way out is the rule's at what chi-squared's constructor answered for m and then for n; `one_nan` gives n/m back.
use mathlib.Core.Path.{◌≡◌, refl, sym, ◌∙◌}
use lib.Ieee.{Float}
use Rattle.std.specs.Prelude.{Ok}
use Rattle.std.proofs.Common.{rules}
use Rattle.kernels.specs.Numbers.{◌⊘◌}
use Rattle.draws.proofs.Exits.{handed, refused_too}
use Rattle.chi_squared.specs.ChiSquared.{chi_made, Made}
use Rattle.fisher_f.specs.declared.Error.TheVariants.{MTooSmall, NTooSmall}
use Rattle.fisher_f.specs.FisherF.{made_case, fisher_made}
use Rattle.fisher_f.proofs.FisherF.new.Goals as goal

by_chi_lem : (m n : Float) {x y : Made} → chi_made m ≡ x → chi_made n ≡ y → made_case (n ⊘ m) x y ≡ fisher_made m n
unfolding fisher_made
by_chi_lem m n e h = rw (e, h)

pub returns-in_err-numer : goal.returns-in_err-numer
returns-in_err-numer c =
    let named : c.in_err-numer.field-0.0 ≡ MTooSmall = search rules in
    let refused = refused_too _ c.map_err.ensures.variant c.in_err-numer.was in
    rw (handed c.from_residual.ensures, named) (by_chi_lem _ _ (sym c.new.ensures ∙ refused.1) refl)

pub returns-in_err-denom : goal.returns-in_err-denom
returns-in_err-denom c =
    let numer : c.new.result ≡ Ok c.in_ok-numer.numer = search rules in
    let named : c.in_err-denom.field-0.0 ≡ NTooSmall = search rules in
    let refused = refused_too _ c.map_err-2.ensures.variant c.in_err-denom.was in
    rw (handed c.from_residual-in_err-denom.ensures, named) (by_chi_lem _ _ (sym c.new.ensures ∙ numer) (sym c.new-2.ensures ∙ refused.1))

pub returns : goal.returns
returns c =
    let numer : c.new.result ≡ Ok c.in_ok-numer.numer = search rules in
    let denom : c.new-2.result ≡ Ok c.in_ok-denom.denom = search rules in
    rw c.one_nan.ensures (by_chi_lem _ _ (sym c.new.ensures ∙ numer) (sym c.new-2.ensures ∙ denom))
