-- Both outcomes of a sample are said by number: those of one draw or of Gamma, which are so said. So a fill is too.
use Prim.Native.Nat.{ℕ}
use native.Mathlib.Omega.{arith}
use mathlib.Core.Path.{◌≡◌, refl, sym}
use mathlib.Core.Logic.{◌↔◌}
use mathlib.Core.Bool.{Bool, true, false}
use lib.Ieee.{Float, lt, eq}
use Rattle.kernels.specs.Numbers.{◌⊗◌, nought, one, two, half}
use Rattle.draws.specs.Draws.{Lent, place, placed, ZeroNext}
use Rattle.draws.specs.Search.{finished}
use Rattle.draws.specs.declared.Positions.{Positions}
use Rattle.draws.specs.declared.Kind.TheVariants.{Normal, Exponential}
use Rattle.draws.specs.declared.Refusal.{Refusal}
use Rattle.draws.specs.declared.Refusal.TheVariants.{Above, Unusable}
use Rattle.draws.specs.Exactly.{Exactly, FillsExactly}
use Rattle.draws.proofs.Exactly as exactness
use Rattle.draws.proofs.FillsExact.{fills_exactly}
use Rattle.draws.proofs.Stages.{of_cond, exactly_as, exactly_finished, exactly_draw}
use Rattle.gamma.specs.Gamma.{sampler}
use Rattle.gamma.specs.declared.Gamma.TheVariants.{One}
use Rattle.gamma.proofs.Exactly.{exactly as gamma_exactly}
use Rattle.gamma.proofs.Zeros.{zero_halted}
use Rattle.chi_squared.specs.declared.ChiSquared.{ChiSquared}
use Rattle.chi_squared.specs.declared.ChiSquared.TheVariants.{DoFExactlyOne, DoFAnythingElse}
use Rattle.chi_squared.specs.ChiSquared.{made_case, chi_made, squared, chi_of, ChiFound, ChiHalted, found_by, ParametersFound}
use Rattle.chi_squared.proofs.Laws.{steady}
use Rattle.std.specs.Prelude.{Err, Ok}

-- which draws a sample used, and what a refused one lacked: the next normal at k = 1, else what Gamma's sentence finds
pub exactly : (c : ChiSquared) → Exactly (chi_of c) (ChiFound c) (ChiHalted c)
unfolding chi_of
exactly DoFExactlyOne = exactly_as (exactly_finished (exactly_draw Normal) squared) (λ l p. sym (of_cond (finished squared p) (placed l p) _ (Err (Above, p))))
exactly (DoFAnythingElse g) = gamma_exactly g

-- of k itself, where rule 5 does not refuse it
pub made_exactly : (k : Float) {c : ChiSquared} → chi_made k ≡ Ok c → Exactly (chi_of c) (ParametersFound k) (ChiHalted c)
unfolding chi_made made_case
made_exactly k {c} e = go (eq k one) (lt nought (half ⊗ k)) e
  where
    go : (a b : Bool) → made_case a b k ≡ Ok c → Exactly (chi_of c) (found_by a k) (ChiHalted c)
    go true b i = let m : c ≡ DoFExactlyOne = cc in rw m (exactly DoFExactlyOne)
    go false true i = let m : c ≡ DoFAnythingElse (sampler (half ⊗ k) two) = cc in rw m (exactly (DoFAnythingElse (sampler (half ⊗ k) two)))
    go false false i = let z : ◌≡◌ {A = ℕ} 0 1 = cc in absurd (omega arith)

module _ (c : ChiSquared) (l : Lent) (p : Positions) where
  -- '17 | a position above its slice's length'
  pub above_exact : {q : Positions} → (chi_of c l p ≡ Err (Above, q)) ↔ ((placed l p ≡ false) × (q ≡ p))
  above_exact = exactness.above_exact (exactly c) l p

  pub refused_above : placed l p ≡ false → chi_of c l p ≡ Err (Above, p)
  refused_above = (exactly c).above l p

  module _ (b : placed l p ≡ true) where
    pub exact : {v : Float} {q : Positions} → (chi_of c l p ≡ Ok (v, q)) ↔ ChiFound c l p v q
    exact = (exactly c).sampled l p b

    pub made_exact : (k : Float) → chi_made k ≡ Ok c → {v : Float} {q : Positions} → (chi_of c l p ≡ Ok (v, q)) ↔ ParametersFound k l p v q
    made_exact k e = (made_exactly k e).sampled l p b

    -- a refusal at valid positions is that of the draw or trial that can't be had, and its positions are those lent
    pub refused_first : {r : Refusal} {q : Positions} → (chi_of c l p ≡ Err (r, q)) ↔ (ChiHalted c l p r × (q ≡ p))
    refused_first = (exactly c).refused l p b

    -- two findings coincide, and none is found beside a refusal
    pub one_found : (v v' : Float) (q q' : Positions) → ChiFound c l p v q → ChiFound c l p v' q' → (v ≡ v') × (q ≡ q')
    one_found v v' q q' = exactness.one_found (exactly c) l p b

    pub not_both : (v : Float) (q : Positions) (r : Refusal) → ChiFound c l p v q → ¬ ChiHalted c l p r
    not_both v q r = exactness.not_both (exactly c) l p b

-- document 02, #105, 'Refusals: 18, kind 3, for either zero': of a chi that holds a One, as at k = 2 and at infinite k
pub zero_refused : (s : Float) (l : Lent) (p : Positions) → placed l p ≡ true → ZeroNext l p → chi_of (DoFAnythingElse (One s)) l p ≡ Err (Unusable Exponential (place Exponential p), p)
zero_refused s l p b z = (refused_first (DoFAnythingElse (One s)) l p b).1 (zero_halted s l p z, refl)

-- and of a fill, by the law of any fill
pub fill_exactly : (c : ChiSquared) → FillsExactly (chi_of c) (ChiFound c) (ChiHalted c)
fill_exactly c = fills_exactly (exactly c) (steady c)
