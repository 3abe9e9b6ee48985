-- A made sampler is the kind that its shape and scale call for, so what is found by it is what is found by them; the constructor refuses by the
-- first test that fails.
use Prim.Native.Nat.{ℕ}
use native.Mathlib.Omega.{arith}
use mathlib.Core.Path.{◌≡◌, refl}
use mathlib.Core.Logic.{◌↔◌}
use mathlib.Core.Bool.{Bool, true, false, cond}
use lib.Ieee.{Float, lt}
use Rattle.kernels.specs.Numbers.{nought}
use Rattle.draws.specs.Draws.{Lent, placed}
use Rattle.draws.specs.declared.Positions.{Positions}
use Rattle.gamma.specs.declared.Gamma.{Gamma}
use Rattle.gamma.specs.Gamma.{sampler, made_case, gamma_made, number_of, gamma_of, ParametersFound}
use Rattle.gamma.proofs.Exact.{exact}
use Rattle.std.specs.Prelude.{Ok}

module _ (shape scale : Float) where
  abbrev kind : Gamma
  kind = sampler shape scale

  -- a shape and a scale above 0 are never refused
  pub made_when : lt nought shape ≡ true → lt nought scale ≡ true → gamma_made shape scale ≡ Ok kind
  unfolding gamma_made made_case
  made_when a b = rw (a, b)

  -- '1, 2 | Gamma shape, then scale, not above 0'
  pub made_number : number_of (gamma_made shape scale) ≡ cond (lt nought shape) (cond (lt nought scale) 0 2) 1
  unfolding gamma_made made_case
  made_number = go (lt nought shape) (lt nought scale)
    where
      go : (a b : Bool) → number_of (made_case a b kind) ≡ cond a (cond b 0 2) 1
      go true true = refl
      go true false = refl
      go false b = refl

  made_kind : {g : Gamma} → gamma_made shape scale ≡ Ok g → g ≡ kind
  unfolding gamma_made made_case
  made_kind {g} e = go (lt nought shape) (lt nought scale) e
    where
      go : (a b : Bool) → made_case a b kind ≡ Ok g → g ≡ kind
      go true true e = cc
      go true false e = let z : ◌≡◌ {A = ℕ} 0 1 = cc in absurd (omega arith)
      go false b e = let z : ◌≡◌ {A = ℕ} 0 1 = cc in absurd (omega arith)

  module _ (l : Lent) (p : Positions) where
    pub made_exact : {g : Gamma} → gamma_made shape scale ≡ Ok g → placed l p ≡ true → {v : Float} {q : Positions} → (gamma_of g l p ≡ Ok (v, q)) ↔ ParametersFound shape scale l p v q
    made_exact e b = rw (made_kind e) (exact kind l p b)
