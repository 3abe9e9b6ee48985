-- Demand 3 for Beta: a sample is given exactly where some whole, usable, accepted trial stands in the draws with every earlier trial whole, usable
-- and rejected, with that trial's value and positions. Slices end, so the search that the rule runs meets the trial that settles it.
use Prim.Native.Nat.{◌+◌, ◌*◌}
use mathlib.Core.Path.{◌≡◌, sym, ◌∙◌, ap}
use mathlib.Core.Logic.{◌↔◌}
use mathlib.Core.Bool.{true, false}
use lib.ListN.{length}
use lib.Ieee.{Float}
use Rattle.std.specs.Prelude.{Err, Ok}
use Rattle.draws.specs.Draws.{Lent, place, placed, Drawn}
use Rattle.draws.specs.declared.Positions.{Positions}
use Rattle.draws.specs.declared.Kind.TheVariants.{Uniform, Normal, Exponential}
use Rattle.draws.specs.declared.Refusal.{Refusal}
use Rattle.draws.specs.declared.Refusal.TheVariants.{Above}
use Rattle.draws.proofs.Searches as searches
use Rattle.beta.specs.declared.Beta.{Beta}
use Rattle.beta.specs.Beta.{beta_trials, beta_of, BetaFound, BetaHalted}
use Rattle.beta.proofs.Trials.{beta_ends}
use Rattle.beta.proofs.Later.{steady}

module _ (g : Beta) (l : Lent) (p : Positions) where
  pub exact : placed l p ≡ true → {v : Float} {q : Positions} → (beta_of g l p ≡ Ok (v, q)) ↔ BetaFound g l p v q
  unfolding beta_of
  exact b = rw b (searches.exact (beta_trials g l p) p (length l.uniforms) (beta_ends g l p))

  -- a refusal at valid positions is that of the first trial that is not whole or not usable, and its positions are those lent
  pub refused_first : placed l p ≡ true → {r : Refusal} {q : Positions} → (beta_of g l p ≡ Err (r, q)) ↔ (BetaHalted g l p r × (q ≡ p))
  unfolding beta_of
  refused_first b {r} {q} =
      rw b (
        searches.refused (beta_trials g l p) p (length l.uniforms) (beta_ends g l p),
        λ h. searches.refuses (beta_trials g l p) p (length l.uniforms) (beta_ends g l p) h.0 ∙ ap (λ (z : Positions). Err (r, z)) (sym h.1),
      )

  -- at any other positions it is 17
  pub refused_above : placed l p ≡ false → beta_of g l p ≡ Err (Above, p)
  unfolding beta_of
  refused_above b = rw b

  pub keeps : {r : Refusal} {q : Positions} → beta_of g l p ≡ Err (r, q) → q ≡ p
  keeps = (steady g).keeps l p

  -- two outcomes that the promise allows coincide, and so do two findings
  pub one_outcome : {d d' : Drawn} → d ≡ beta_of g l p → d' ≡ beta_of g l p → d ≡ d'
  one_outcome e f = e ∙ sym f

  pub one_found : {v v' : Float} {q q' : Positions} → BetaFound g l p v q → BetaFound g l p v' q' → (v ≡ v') × (q ≡ q')
  one_found = searches.one_found (beta_trials g l p)

  pub not_both : {v : Float} {q : Positions} {r : Refusal} → BetaFound g l p v q → ¬ BetaHalted g l p r
  not_both = searches.not_both (beta_trials g l p)

  -- 'A Beta sample accepted at trial k uses exactly 2k + 2 uniforms', and no other draw
  pub uses : {v : Float} {q : Positions} (h : BetaFound g l p v q)
      → (place Uniform q ≡ place Uniform p + (2 * h.at + 2)) × (place Normal q ≡ place Normal p) × (place Exponential q ≡ place Exponential p)
  unfolding beta_trials
  uses h = (ap (place Uniform) h.after_is, ap (place Normal) h.after_is, ap (place Exponential) h.after_is)
