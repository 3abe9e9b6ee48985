-- A sample is Beta's, scaled and moved, so that which draws it used and what it leaves alone are Beta's too: only its value is its own.
-- The constructor's tests, in their order, settle its answer.
use Prim.Native.Nat.{ℕ, ◌+◌, ◌*◌}
use native.Mathlib.Omega.{arith}
use mathlib.Core.Path.{◌≡◌, refl, sym, ◌∙◌}
use mathlib.Core.Logic.{◌↔◌}
use mathlib.Core.Bool.{Bool, true, false, cond, ◌&&◌}
use lib.Ieee.{Float, binary64, of_bits, lt, le}
use Rattle.std.specs.Prelude.{Err, Ok}
use Rattle.kernels.specs.Numbers.{◌⊕◌, ◌⊖◌, ◌⊗◌, ◌⊘◌, nought, one, two}
use Rattle.kernels.proofs.Open.{rules}
use Rattle.draws.specs.Draws.{Lent, place, placed, up_to, Drawn}
use Rattle.draws.specs.declared.Positions.{Positions}
use Rattle.draws.specs.declared.Kind.{Kind}
use Rattle.draws.specs.declared.Kind.TheVariants.{Uniform, Normal, Exponential}
use Rattle.draws.specs.declared.Refusal.{Refusal}
use Rattle.draws.specs.declared.Refusal.TheVariants.{Above, Unusable}
use Rattle.draws.proofs.Stages.{finished_exact, finished_refused}
use Rattle.draws.specs.Later.{SameTo, Steady}
use Rattle.draws.proofs.Sequencing.{steady_finished}
use Rattle.beta.specs.Beta.{made_case, beta_made, beta_of, BetaHalted, ParametersFound, Made as BetaMade}
use Rattle.beta.specs.declared.Beta.{Beta}
use Rattle.beta.proofs.Later.{steady as beta_steady}
use Rattle.beta.proofs.Exact.{exact as beta-exact, refused_first as beta-refused, refused_above as beta-above, one_found as beta-one-found, not_both as beta-not-both, uses as beta-uses}
use Rattle.beta.proofs.Refusals.{refused_later as beta-refused-later}
use Rattle.beta.proofs.Parameters.{makes as beta-makes}
use Rattle.pert.specs.declared.Pert.{Pert}
use Rattle.pert.specs.declared.PertBuilder.{PertBuilder}
use Rattle.pert.specs.Pert.{builder, beta_case, checked, mode_made, mean_made, number_of, pert_value, pert_of, PertFound, Made}

-- ---- sampling
pub steady : (t : Pert) → Steady (pert_of t)
unfolding pert_of
steady t = steady_finished (pert_value t) (beta_steady t.beta)

module _ (t : Pert) (l : Lent) (p : Positions) where
  -- which draws a sample used: those up to the trial that Beta's sentence finds, whose value is then scaled by the range and moved by min
  pub exact : placed l p ≡ true → {v : Float} {q : Positions} → (pert_of t l p ≡ Ok (v, q)) ↔ PertFound t l p v q
  unfolding pert_of
  exact c = (
    λ e.
        let (b, d, h) = (finished_exact p (pert_value t) (beta_of t.beta l p)).0 e in
        (b, (beta-exact t.beta l p c).0 d, h),
    λ (b, d, h). rw ((beta-exact t.beta l p c).1 d, h),
  )

  -- a refusal at valid positions is that of Beta's first trial that is not whole or not usable, and its positions are those lent
  pub refused_first : placed l p ≡ true → {r : Refusal} {q : Positions} → (pert_of t l p ≡ Err (r, q)) ↔ (BetaHalted t.beta l p r × (q ≡ p))
  unfolding pert_of
  refused_first c = (
    λ e.
        let (m, d, h) = (finished_refused p (pert_value t) (beta_of t.beta l p)).0 e in
        (((beta-refused t.beta l p c).0 d).0, h),
    λ (d, h). rw ((beta-refused t.beta l p c).1 (d, refl), h),
  )

  -- at any other positions it is 17
  pub refused_above : placed l p ≡ false → pert_of t l p ≡ Err (Above, p)
  unfolding pert_of
  refused_above c = rw (beta-above t.beta l p c)

  -- two outcomes that the promise allows coincide, and so do two findings
  pub one_outcome : {d d' : Drawn} → d ≡ pert_of t l p → d' ≡ pert_of t l p → d ≡ d'
  one_outcome e f = e ∙ sym f

  pub one_found : {v v' : Float} {q q' : Positions} → PertFound t l p v q → PertFound t l p v' q' → (v ≡ v') × (q ≡ q')
  one_found (b, d, h) (c, e, i) = let (x, y) = beta-one-found t.beta l p d e in (cc, y)

  pub not_both : {v : Float} {q : Positions} {r : Refusal} → PertFound t l p v q → ¬ BetaHalted t.beta l p r
  not_both (b, d, h) = beta-not-both t.beta l p d

  -- a sample accepted at Beta's trial k uses exactly 2k + 2 uniforms, and no other draw
  pub uses : {v : Float} {q : Positions} (h : PertFound t l p v q)
      → (place Uniform q ≡ place Uniform p + (2 * h.1.at + 2)) × (place Normal q ≡ place Normal p) × (place Exponential q ≡ place Exponential p)
  uses (b, d, h) = beta-uses t.beta l p d

-- after 18, draws past the refused one change nothing
pub refused_later : (t : Pert) (l l' : Lent) (p : Positions) {k : Kind} {i : ℕ} {q : Positions} → placed l p ≡ true
    → pert_of t l p ≡ Err (Unusable k i, q) → SameTo (up_to Uniform i p) l l' → pert_of t l' p ≡ Err (Unusable k i, q)
unfolding pert_of
refused_later t l l' p b e s =
    let (m, d, z) = (finished_refused p (pert_value t) (beta_of t.beta l p)).0 e in
    rw (beta-refused-later t.beta l l' p b d s, z)

-- ---- the constructor
-- Beta's parameters
abbrev pub v_of : PertBuilder → Float → Float
v_of b mode = one ⊕ b.shape ⊗ (mode ⊖ b.min) ⊘ (b.max ⊖ b.min)

abbrev pub w_of : PertBuilder → Float → Float
w_of b mode = one ⊕ b.shape ⊗ (b.max ⊖ mode) ⊘ (b.max ⊖ b.min)

-- the table's number, by the tests in their order: 8 where the range is empty, else 9 where the mode is outside it, else 10 where the shape is not at
-- least 0, else 8 where a parameter of Beta is not above 0
abbrev pub number_at : PertBuilder → Float → ℕ
number_at b mode =
    cond (lt b.min b.max) (cond (le b.min mode && le mode b.max) (cond (le nought b.shape) (cond (lt nought (v_of b mode) && lt nought (w_of b mode)) 0 8) 10) 9) 8

beta_number_lem : (min range : Float) (x y : Bool) (g : Beta) → number_of (beta_case min range (made_case x y g)) ≡ cond (x && y) 0 8
unfolding made_case
beta_number_lem min range true true g = refl
beta_number_lem min range true false g = refl
beta_number_lem min range false y g = refl

checked_number : (r m s : Bool) (x : Made) → number_of (checked r m s x) ≡ cond r (cond m (cond s (number_of x) 10) 9) 8
checked_number false m s x = refl
checked_number true false s x = refl
checked_number true true false x = refl
checked_number true true true x = refl

checked_made : (r m s : Bool) (x : Made) {t : Pert} → checked r m s x ≡ Ok t → (r ≡ true) × (m ≡ true) × (s ≡ true) × (x ≡ Ok t)
checked_made false m s x e = let z : ◌≡◌ {A = ℕ} 0 1 = cc in absurd (omega arith)
checked_made true false s x e = let z : ◌≡◌ {A = ℕ} 0 1 = cc in absurd (omega arith)
checked_made true true false x e = let z : ◌≡◌ {A = ℕ} 0 1 = cc in absurd (omega arith)
checked_made true true true x e = (refl, refl, refl, e)

beta_made_from : (min range : Float) (m : BetaMade) {t : Pert} → beta_case min range m ≡ Ok t → (m ≡ Ok t.beta) × (t.min ≡ min) × (t.range ≡ range)
beta_made_from min range (Ok g) {t} e = let h : t ≡ record { min = min; range = range; beta = g } = cc in rw h (refl, refl, refl)
beta_made_from min range (Err _) e = let z : ◌≡◌ {A = ℕ} 0 1 = cc in absurd (omega arith)

module _ (b : PertBuilder) (mode : Float) where
  pub made_number : number_of (mode_made b mode) ≡ number_at b mode
  unfolding mode_made beta_made
  made_number = rw (checked_number, beta_number_lem)

  -- what is made, and that it is made exactly where the three tests hold and Beta is not refused
  pub makes : {t : Pert} → (mode_made b mode ≡ Ok t)
      ↔ ((lt b.min b.max ≡ true) × (le b.min mode && le mode b.max ≡ true) × (le nought b.shape ≡ true)
      × (beta_made (v_of b mode) (w_of b mode) ≡ Ok t.beta) × (t.min ≡ b.min) × (t.range ≡ b.max ⊖ b.min))
  unfolding mode_made
  makes {t} = (
    λ e.
        let (r, m, s, d) = checked_made (lt b.min b.max) (le b.min mode && le mode b.max) (le nought b.shape) _ e in
        let (g, x, y) = beta_made_from b.min (b.max ⊖ b.min) (beta_made (v_of b mode) (w_of b mode)) d in
        (r, m, s, g, x, y),
    λ (r, m, s, g, x, y). rw (r, m, s, g, ← y, ← x),
  )

  -- of the constructor's arguments, which draws a sample used
  pub made_exact : {t : Pert} → mode_made b mode ≡ Ok t → (l : Lent) (p : Positions) → placed l p ≡ true → {v : Float} {q : Positions}
      → (pert_of t l p ≡ Ok (v, q)) ↔ ((x : Float) × ParametersFound (v_of b mode) (w_of b mode) l p x q × (v ≡ x ⊗ (b.max ⊖ b.min) ⊕ b.min))
  made_exact {t} e l p c =
      let (r, m, s, g, x, y) = makes.0 e in
      rw (← ((beta-makes (v_of b mode) (w_of b mode)).0 g).2, ← y, ← x) (exact t l p c)

  -- two answers that the promise allows coincide
  pub one_made : {m m' : Made} → m ≡ mode_made b mode → m' ≡ mode_made b mode → m ≡ m'
  one_made e f = e ∙ sym f

-- a mean is refused as the mode that it asks for is
pub mean_number : (b : PertBuilder) (mean : Float) → number_of (mean_made b mean) ≡ number_at b ((((b.shape ⊕ two) ⊗ mean ⊖ b.min) ⊖ b.max) ⊘ b.shape)
unfolding mean_made
mean_number b mean = made_number b ((((b.shape ⊕ two) ⊗ mean ⊖ b.min) ⊖ b.max) ⊘ b.shape)

pub one_mean : (b : PertBuilder) (mean : Float) {m m' : Made} → m ≡ mean_made b mean → m' ≡ mean_made b mean → m ≡ m'
one_mean b mean e f = e ∙ sym f

-- Pert(-MAX, MAX) with mode 0: the range overflows, so that Beta is refused for a NaN
pub widest : number_of (mode_made (builder (of_bits binary64 0xffef_ffff_ffff_ffff) (of_bits binary64 0x7fef_ffff_ffff_ffff)) nought) ≡ 8
unfolding rules builder mode_made beta_made made_case
widest = refl
