-- A scanned alpha's elements are above 0: Gamma::new refuses none of them.
use Prim.Native.Nat.{ℕ, ◌<◌}
use mathlib.Core.Path.{◌≡◌, refl}
use mathlib.Core.List.{List}
use lib.ListN.{length, get_or}
use lib.Ieee.{Float, nan, lt}
use Rattle.kernels.specs.Numbers.{one}
use Rattle.draws.specs.Draws.{Lent, Drawn}
use Rattle.draws.specs.declared.Positions.{Positions}
use Rattle.gamma.specs.Gamma.{sampler, gamma_made, gamma_of}
use Rattle.gamma.specs.declared.Gamma.{Gamma}
use Rattle.gamma.proofs.Parameters.{made_when}
use Rattle.dirichlet_alpha.specs.Alpha.{scanned}
use Rattle.dirichlet_alpha.proofs.Positives.{element_above}
use Rattle.dirichlet.specs.FromGamma.{gamma_at}
use Rattle.std.specs.Prelude.{Ok}

module _ (alpha : List Float) (h : scanned alpha 0 ≡ Ok tt) (i : ℕ) (b : i < length alpha) where
  -- so FailedToCreateGamma can't arise
  pub gamma_never_refused : gamma_made (get_or alpha i nan) one ≡ Ok (sampler (get_or alpha i nan) one)
  unfolding lt
  gamma_never_refused = made_when (get_or alpha i nan) one (element_above alpha h i b) refl

  -- a component's sampler is the one that is made of alpha
  pub gamma_drawn : (l : Lent) (q : Positions) {x : Drawn} {g : Gamma} → gamma_made (get_or alpha i nan) one ≡ Ok g → x ≡ gamma_of g l q → gamma_at alpha l i q ≡ x
  unfolding gamma_at
  gamma_drawn l q m e = cc gamma_never_refused
