-- Which draws a vector used and which component was refused, on either route, and that later draws change nothing: the components are samples in
-- order, of steady samplers that are said by number. What every refusal leaves, and that two outcomes coincide, is dirichlet_alpha's, said of the
-- vector of any route.
use Prim.Native.Nat.{ℕ, ◌-◌, ◌<◌}
use mathlib.Core.Path.{◌≡◌, refl}
use mathlib.Core.Logic.{◌↔◌}
use mathlib.Core.List.{List}
use mathlib.Core.Bool.{Bool, true, false, cond}
use lib.ListN.{length, get_or, replicate}
use lib.Ieee.{Float, nan, eq}
use Rattle.kernels.specs.Numbers.{◌⊘◌, nought, one}
use Rattle.draws.specs.Draws.{Lent, place, placed, ZeroNext}
use Rattle.draws.specs.Fill.{all, stopped, InTurn}
use Rattle.draws.specs.Later.{SameTo, Reached, Steady}
use Rattle.draws.specs.Exactly.{Exactly}
use Rattle.draws.specs.declared.Positions.{Positions}
use Rattle.draws.specs.declared.Kind.TheVariants.{Exponential}
use Rattle.draws.specs.declared.Refusal.{Refusal}
use Rattle.draws.specs.declared.Refusal.TheVariants.{Above, Unusable}
use Rattle.draws.proofs.Later.{placed_later}
use Rattle.draws.proofs.Exactly as exactness
use Rattle.draws.proofs.InOrder.{given_carried, given_exact, given_lacking, lacking_not_above}
use Rattle.gamma.specs.declared.Gamma.TheVariants.{One}
use Rattle.gamma.specs.Gamma.{GammaFound, GammaHalted}
use Rattle.gamma.proofs.Exactly as gamma
use Rattle.gamma.proofs.Later as gamma-later
use Rattle.gamma.proofs.Zeros.{zero_halted, shape_one}
use Rattle.beta.specs.Beta.{BetaFound, BetaHalted}
use Rattle.beta.proofs.Exactly as beta
use Rattle.beta.proofs.Later as beta-later
use Rattle.dirichlet_alpha.specs.declared.Refused.TheVariants.{Draws}
use Rattle.dirichlet_alpha.specs.Alpha.{checked_of, all_small_lem}
use Rattle.dirichlet_alpha.proofs.Laws as alpha-laws
use Rattle.dirichlet_alpha.proofs.Laws.{ready_when, sampled_is}
use Rattle.dirichlet.specs.FromGamma.{gamma_vector, gamma_route, gamma_for, gamma_at, gammas_of}
use Rattle.dirichlet.specs.FromBeta.{beta_vector, beta_route, beta_for, beta_at, betas_of}
use Rattle.dirichlet.specs.Dirichlet.{vector_of, found_by, VectorFound, lacking_by, VectorLacking, Dirichlets}
use Rattle.std.specs.Prelude.{Err, Ok}
use Rattle.dirichlet_alpha.specs.Answers.{Answer}

-- ---- the components' samplers
module _ (alpha : List Float) (i : ℕ) where
  gamma_steady : Steady (λ l. gamma_at alpha l i)
  unfolding gamma_at
  gamma_steady = gamma-later.steady (gamma_for alpha i)

  beta_steady : Steady (λ l. beta_at alpha l i)
  unfolding beta_at
  beta_steady = beta-later.steady (beta_for alpha i)

  gamma_exactly : Exactly (λ l. gamma_at alpha l i) (GammaFound (gamma_for alpha i)) (GammaHalted (gamma_for alpha i))
  unfolding gamma_at
  gamma_exactly = gamma.exactly (gamma_for alpha i)

  beta_exactly : Exactly (λ l. beta_at alpha l i) (BetaFound (beta_for alpha i)) (BetaHalted (beta_for alpha i))
  unfolding beta_at
  beta_exactly = beta.exactly (beta_for alpha i)

  -- a component answers 17 exactly where a position is above its slice
  module _ (l : Lent) (p : Positions) {q : Positions} where
    pub gamma_above_exact : (gamma_at alpha l i p ≡ Err (Above, q)) ↔ ((placed l p ≡ false) × (q ≡ p))
    gamma_above_exact = exactness.above_exact gamma_exactly l p

    pub beta_above_exact : (beta_at alpha l i p ≡ Err (Above, q)) ↔ ((placed l p ≡ false) × (q ≡ p))
    beta_above_exact = exactness.above_exact beta_exactly l p

-- ---- the vector
module _ (alpha : List Float) (l : Lent) (p : Positions) (b : placed l p ≡ true) where
  -- a vector ends at or past where it starts, and draws beyond its end change nothing in it
  pub vector_carried : (l' : Lent) {vs : List Float} {q : Positions} → vector_of alpha l p ≡ all vs q → Reached l p q × (SameTo q l l' → vector_of alpha l' p ≡ all vs q)
  unfolding vector_of gamma_route beta_route
  vector_carried l' {vs} {q} = go (all_small_lem alpha)
    where
      go : (c : Bool) → cond c (betas_of alpha l p) (gammas_of alpha l p) ≡ all vs q → Reached l p q × (SameTo q l l' → cond c (betas_of alpha l' p) (gammas_of alpha l' p) ≡ all vs q)
      go true = given_carried {s = beta_at alpha} (beta_steady alpha) l l' (beta_vector one) (length alpha - 1) p b
      go false = given_carried {s = gamma_at alpha} (gamma_steady alpha) l l' gamma_vector (length alpha) p b

  -- which draws a vector used, on either route
  pub exact : {out : List Float} {q : Positions} → (vector_of alpha l p ≡ all out q) ↔ VectorFound alpha l p out q
  unfolding vector_of gamma_route beta_route
  exact {out} {q} = go (all_small_lem alpha)
    where
      go : (c : Bool) → (cond c (betas_of alpha l p) (gammas_of alpha l p) ≡ all out q) ↔ found_by c alpha l p out q
      go true = given_exact {s = beta_at alpha} (beta_exactly alpha) (beta_steady alpha) l p b (length alpha - 1) (beta_vector one)
      go false = given_exact {s = gamma_at alpha} (gamma_exactly alpha) (gamma_steady alpha) l p b (length alpha) gamma_vector

  -- which component was refused: the first that can't be had, where those before it ended
  pub refused_first : {r : Refusal} → (vector_of alpha l p ≡ stopped r) ↔ VectorLacking alpha l p r
  unfolding vector_of gamma_route beta_route
  refused_first {r} = go (all_small_lem alpha)
    where
      go : (c : Bool) → (cond c (betas_of alpha l p) (gammas_of alpha l p) ≡ stopped r) ↔ lacking_by c alpha l p r
      go true = given_lacking {s = beta_at alpha} (beta_exactly alpha) (beta_steady alpha) l p b (length alpha - 1) (beta_vector one)
      go false = given_lacking {s = gamma_at alpha} (gamma_exactly alpha) (gamma_steady alpha) l p b (length alpha) gamma_vector

  -- and never with 17
  pub not_above : ¬ VectorLacking alpha l p Above
  not_above = go (all_small_lem alpha)
    where
      go : (c : Bool) → ¬ lacking_by c alpha l p Above
      go true = lacking_not_above {s = beta_at alpha} (beta_exactly alpha) (beta_steady alpha) l p b (length alpha - 1)
      go false = lacking_not_above {s = gamma_at alpha} (gamma_exactly alpha) (gamma_steady alpha) l p b (length alpha)

-- ---- the call
module _ (alpha : List Float) (l : Lent) (p : Positions) {out left : List Float} {q : Positions} where
  -- a vector exactly where alpha, the output and the positions are right and every component is found
  pub sampled_exact : Dirichlets alpha l p out (Ok q) left ↔ ((checked_of alpha (length out) ≡ Ok tt) × (placed l p ≡ true) × VectorFound alpha l p left q)
  sampled_exact = (
    λ d. let (e, b, x) = sampled_is alpha l d in (e, b, (exact alpha l p b).0 x),
    λ (e, b, f). let z = ready_when alpha (length out) l p e b in let x = (exact alpha l p b).1 f in record { answer_is = rw (z, x); cells_are = rw (z, x) },
  )

  -- after 18 or 19: the refusal of the first component that can't be had, and every element +0
  pub refused_exact : checked_of alpha (length out) ≡ Ok tt → placed l p ≡ true → {r : Refusal}
      → Dirichlets alpha l p out (Err (Draws r, q)) left ↔ (VectorLacking alpha l p r × (q ≡ p) × (left ≡ replicate (length out) nought))
  refused_exact e b =
      let h = alpha-laws.stopped_exact (ready_when alpha (length out) l p e b) in
      (λ d. let (s, i, z) = h.0 d in ((refused_first alpha l p b).0 s, i, z), λ (s, i, z). h.1 ((refused_first alpha l p b).1 s, i, z))

  -- 17 exactly where alpha and the output are right and a position is above its slice, and then the output is as lent
  pub above_exact : Dirichlets alpha l p out (Err (Draws Above, q)) left
      ↔ ((checked_of alpha (length out) ≡ Ok tt) × (placed l p ≡ false) × (q ≡ p) × (left ≡ out))
  above_exact = alpha-laws.above_exact alpha l (λ b e. not_above alpha l p b ((refused_first alpha l p b).0 e))

-- an element 1 makes a One
element_one : (alpha : List Float) (i : ℕ) → eq (get_or alpha i nan) one ≡ true → gamma_for alpha i ≡ One (one ⊘ (one ⊘ one))
unfolding eq
element_one alpha i h = shape_one (get_or alpha i nan) one h refl

-- document 02, #105, 'Refusals: 18, kind 3, for either zero': on the Gamma route, of the first component that meets such a draw. It is that of an element 1;
-- those before it are found, and m is where they end. Every cell is +0.
pub zero_refused : (alpha : List Float) (l : Lent) (p : Positions) {out : List Float} → checked_of alpha (length out) ≡ Ok tt → placed l p ≡ true → all_small_lem alpha ≡ false
    → (i : ℕ) → i < length alpha → eq (get_or alpha i nan) one ≡ true → {vs : List Float} {m : Positions} → InTurn (λ i. GammaFound (gamma_for alpha i) l) i p vs m → ZeroNext l m
    → {r : Answer} {left : List Float} → Dirichlets alpha l p out r left
    → (r ≡ Err (Draws (Unusable Exponential (place Exponential m)), p)) × (left ≡ replicate (length out) nought)
zero_refused alpha l p e b g i w o {vs} {m} t z d = alpha-laws.one_outcome d ((refused_exact alpha l p e b).1 (lacking, refl, refl))
  where
    lacking : VectorLacking alpha l p (Unusable Exponential (place Exponential m))
    lacking = rw g record { at = i; within = w; values = vs; ends = m; before = t; lacks = rw (element_one alpha i o) (zero_halted (one ⊘ (one ⊘ one)) l m z) }

pub later : (alpha : List Float) (l l' : Lent) {p : Positions} {out : List Float} {q : Positions} {left : List Float} → Dirichlets alpha l p out (Ok q) left → SameTo q l l'
    → Dirichlets alpha l' p out (Ok q) left
later alpha l l' {p} {out} d t =
    let (e, b, x) = sampled_is alpha l d in
    let (r, f) = vector_carried alpha l p b l' x in
    let z = ready_when alpha (length out) l' p e (placed_later l l' p _ r t) in
    record { answer_is = rw (z, f t); cells_are = rw (z, f t) }
