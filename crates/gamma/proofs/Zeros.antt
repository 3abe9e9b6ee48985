-- Document 02, #105, of Gamma: One's only trial is the exponential needed next, so that a zero of either sign is its refusal. What is left to a Gamma made
-- with an infinite parameter is a number above 0 times plus infinity.
use Prim.Native.Nat.{ℕ, zero, suc}
use native.Mathlib.Nat.{zero-mul}
use native.Mathlib.Omega.{arith}
use mathlib.Core.Path.{◌≡◌, refl, sym, ◌∙◌}
use mathlib.Core.Bool.{Bool, true, false, ◌||◌, true≢false}
use lib.Dec.{eqb-suc-zero}
use lib.Ieee.{Float, nan, inf, fin, lt, eq, mul, div}
use Rattle.kernels.specs.Numbers.{◌⊗◌, ◌⊘◌, nought, one}
use Rattle.draws.specs.Draws.{Lent, place, placed, nth, ZeroNext}
use Rattle.draws.specs.Search.{Found}
use Rattle.draws.specs.declared.Positions.{Positions}
use Rattle.draws.specs.declared.Kind.TheVariants.{Exponential}
use Rattle.draws.specs.declared.Refusal.TheVariants.{Unusable}
use Rattle.draws.proofs.Reading as reading
use Rattle.draws.proofs.Searches.{refused}
use Rattle.gamma.specs.declared.Gamma.{Gamma}
use Rattle.gamma.specs.declared.Gamma.TheVariants.{One}
use Rattle.gamma.specs.Small.{one_trials, one_of}
use Rattle.gamma.specs.Gamma.{kind_made, sampler, gamma_made, gamma_of, GammaHalted}
use Rattle.gamma.proofs.SmallAndOne.{one_ends, one_none}
use Rattle.gamma.proofs.Exact.{refused_first, refused_above}
use Rattle.gamma.proofs.Parameters.{made_exact}
use Rattle.std.specs.Prelude.{Err, Ok}

-- ---- 'Refusals: 18, kind 3, for either zero', of One with any field
module _ (s : Float) (l : Lent) (p : Positions) (z : ZeroNext l p) where
  -- by number, as what is composed of Gammas meets it
  pub zero_halted : GammaHalted (One s) l p (Unusable Exponential (place Exponential p))
  unfolding one_of
  zero_halted = (refused (one_trials s l p) p 1 (one_ends s l p) (sym (one_none s l p (reading.zero_refused l p z)))).0

  pub zero_refused : placed l p ≡ true → gamma_of (One s) l p ≡ Err (Unusable Exponential (place Exponential p), p)
  zero_refused b = (refused_first (One s) l p b).1 (zero_halted, refl)

-- a shape of 1 makes a One, where the scale is finite
one_finite : (x : Float) → eq x one ≡ true → eq x (inf false) ≡ false
unfolding eq
one_finite nan h = refl
one_finite (inf s) h = absurd (true≢false (sym h))
one_finite (fin s m e) h = refl

pub shape_one : (shape scale : Float) → eq shape one ≡ true → eq scale (inf false) ≡ false → sampler shape scale ≡ One (one ⊘ (one ⊘ scale))
unfolding kind_made
shape_one shape scale h i = rw (one_finite shape h, i, h)

-- ---- 'with an infinite shape, our sample was NaN': now it is plus infinity, or there is none
above_times_infinite : (x : Float) → lt nought x ≡ true → x ⊗ inf false ≡ inf false
unfolding lt mul
above_times_infinite nan h = absurd (true≢false (sym h))
above_times_infinite (inf true) h = absurd (true≢false (sym h))
above_times_infinite (inf false) h = refl
above_times_infinite (fin true m e) h = absurd (true≢false (sym h))
above_times_infinite (fin false zero e) h = absurd (true≢false (sym (simp zero-mul at h)))
above_times_infinite (fin false (suc m) e) h = rw (eqb-suc-zero m)

found_infinite : (l : Lent) (p : Positions) {v : Float} {q : Positions} → Found (one_trials (one ⊘ nought) l p) v q → v ≡ inf false
unfolding one_trials div
found_infinite l p h = h.value_is ∙ above_times_infinite (nth Exponential l p 0) ((reading.usable_above _).0 h.takes.1).1

module _ (shape scale : Float) (i : eq shape (inf false) || eq scale (inf false) ≡ true) where
  infinite_kind : sampler shape scale ≡ One (one ⊘ nought)
  unfolding kind_made
  infinite_kind = rw i

  pub infinite_sample : {g : Gamma} → gamma_made shape scale ≡ Ok g → (l : Lent) (p : Positions) {v : Float} {q : Positions} → gamma_of g l p ≡ Ok (v, q) → v ≡ inf false
  infinite_sample {g} m l p {v} {q} e = go (placed l p) refl
    where
      go : (b : Bool) → placed l p ≡ b → v ≡ inf false
      go true b = found_infinite l p (rw infinite_kind at ((made_exact shape scale l p m b).0 e))
      go false b = let h = refused_above g l p b in let z : ◌≡◌ {A = ℕ} 0 1 = cc in absurd (omega arith)
