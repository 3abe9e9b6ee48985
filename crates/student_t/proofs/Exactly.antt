-- Both outcomes of a sample are said by number: it is a draw, then one of chi-squared's that starts where the draw left off, and both are so said. So a
-- fill is too.
use Prim.Native.Nat.{ℕ}
use native.Mathlib.Omega.{arith}
use mathlib.Core.Path.{◌≡◌, refl, sym}
use mathlib.Core.Logic.{◌↔◌}
use mathlib.Core.Bool.{true, false}
use lib.Ieee.{Float}
use Rattle.draws.specs.Draws.{Lent, place, past, placed, Had, Next, ZeroNext, Drawn}
use Rattle.draws.specs.Search.{finished, chain, Chained, at_second}
use Rattle.draws.specs.declared.Positions.{Positions}
use Rattle.draws.specs.declared.Kind.TheVariants.{Normal, Exponential}
use Rattle.draws.specs.declared.Refusal.{Refusal}
use Rattle.draws.specs.declared.Refusal.TheVariants.{Above, Unusable}
use Rattle.draws.specs.Exactly.{Exactly, FillsExactly}
use Rattle.draws.proofs.Exactly as exactness
use Rattle.draws.proofs.FillsExact.{fills_exactly}
use Rattle.draws.proofs.Sequencing.{steady_draw, steady_placed}
use Rattle.draws.proofs.Stages.{of_cond, exactly_as, exactly_chain, exactly_draw}
use Rattle.gamma.specs.declared.Gamma.TheVariants.{One}
use Rattle.gamma.proofs.Zeros.{zero_halted}
use Rattle.chi_squared.specs.ChiSquared.{chi_made, chi_of, ChiHalted, Made as ChiMade}
use Rattle.chi_squared.specs.declared.ChiSquared.TheVariants.{DoFAnythingElse}
use Rattle.chi_squared.proofs.Exactly as chi-laws
use Rattle.student_t.specs.declared.StudentT.{StudentT}
use Rattle.student_t.specs.StudentT.{made_case, student_made, student_value, student_of, StudentFound, StudentHalted, ParametersFound}
use Rattle.student_t.proofs.Laws.{steady}
use Rattle.chi_squared.specs.declared.Error.TheVariants.{DoFTooSmall}
use Rattle.std.specs.Prelude.{Err, Ok}

-- a sampler that was made keeps what chi-squared's constructor made, and nu
module _ (nu : Float) where
  made_from : {t : StudentT} → student_made nu ≡ Ok t → (chi_made nu ≡ Ok t.chi) × (t.dof ≡ nu)
  unfolding student_made
  made_from {t} e = go (chi_made nu) e
    where
      go : (m : ChiMade) → made_case nu m ≡ Ok t → (m ≡ Ok t.chi) × (t.dof ≡ nu)
      go (Ok c) e = let h : t ≡ record { chi = c; dof = nu } = cc in rw h (refl, refl)
      go (Err DoFTooSmall) e = let z : ◌≡◌ {A = ℕ} 0 1 = cc in absurd (omega arith)

module _ (t : StudentT) where
  -- 'a normal first, then chi', F being what is said of chi
  by_chi_lem : {F : Lent → Positions → Float → Positions → Type 0} → Exactly (chi_of t.chi) F (ChiHalted t.chi)
      → Exactly (student_of t) (λ l. Chained (student_value t.dof) (Next Normal l) (F l)) (StudentHalted t)
  unfolding student_of
  by_chi_lem x =
      exactly_as (exactly_chain (exactly_draw Normal) (steady_placed (steady_draw Normal)) (student_value t.dof) x)
      (λ l p. sym (of_cond (λ (d : Drawn). chain p d (λ norm q. finished (student_value t.dof norm) q (chi_of t.chi l q))) (placed l p) _ (Err (Above, p))))

  -- which draws a sample used, and what a refused one lacked
  pub exactly : Exactly (student_of t) (StudentFound t) (StudentHalted t)
  exactly = by_chi_lem (chi-laws.exactly t.chi)

  -- of nu itself, where rule 5 does not refuse it
  pub made_exactly : (nu : Float) → student_made nu ≡ Ok t → Exactly (student_of t) (ParametersFound nu) (StudentHalted t)
  made_exactly nu e = let (c, d) = made_from nu e in rw (← d) (by_chi_lem (chi-laws.made_exactly t.dof (rw (← d) at c)))

  module _ (l : Lent) (p : Positions) where
    -- '17 | a position above its slice's length'
    pub above_exact : {q : Positions} → (student_of t l p ≡ Err (Above, q)) ↔ ((placed l p ≡ false) × (q ≡ p))
    above_exact = exactness.above_exact exactly l p

    pub refused_above : placed l p ≡ false → student_of t l p ≡ Err (Above, p)
    refused_above = exactly.above l p

    module _ (b : placed l p ≡ true) where
      pub exact : {v : Float} {q : Positions} → (student_of t l p ≡ Ok (v, q)) ↔ StudentFound t l p v q
      exact = exactly.sampled l p b

      pub made_exact : (nu : Float) → student_made nu ≡ Ok t → {v : Float} {q : Positions} → (student_of t l p ≡ Ok (v, q)) ↔ ParametersFound nu l p v q
      made_exact nu e = (made_exactly nu e).sampled l p b

      -- a refusal at valid positions is that of the draw or trial that can't be had, and its positions are those lent
      pub refused_first : {r : Refusal} {q : Positions} → (student_of t l p ≡ Err (r, q)) ↔ (StudentHalted t l p r × (q ≡ p))
      refused_first = exactly.refused l p b

      -- two findings coincide, and none is found beside a refusal
      pub one_found : {v v' : Float} {q q' : Positions} → StudentFound t l p v q → StudentFound t l p v' q' → (v ≡ v') × (q ≡ q')
      one_found = exactness.one_found exactly l p b

      pub not_both : {v : Float} {q : Positions} {r : Refusal} → StudentFound t l p v q → ¬ StudentHalted t l p r
      not_both = exactness.not_both exactly l p b

-- document 02, #105, 'Refusals: 18, kind 3, for either zero': after a usable normal, at the exponential past it, which the normal leaves where it was
pub zero_refused : (t : StudentT) (s : Float) → t.chi ≡ DoFAnythingElse (One s) → (l : Lent) (p : Positions) → placed l p ≡ true → Had Normal l p → ZeroNext l p
    → student_of t l p ≡ Err (Unusable Exponential (place Exponential p), p)
zero_refused t s c l p b n z = (refused_first t l p b).1 (at_second (n, refl, refl) (rw c (zero_halted s l (past Normal 1 p) z)), refl)

-- and of a fill, by the law of any fill
pub fill_exactly : (t : StudentT) → FillsExactly (student_of t) (StudentFound t) (StudentHalted t)
fill_exactly t = fills_exactly (exactly t) (steady t)
