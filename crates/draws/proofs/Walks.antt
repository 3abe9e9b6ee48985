-- A loop that goes from trial to trial by positions meets the numbered trials in their order: where trial k starts, trial 0 of the trials
-- counted from there is trial k, and past it starts the next.
use Prim.Native.Nat.{ℕ, suc, ◌-◌, ◌<◌}
use native.Mathlib.Omega.{arith}
use mathlib.Core.Path.{◌≡◌, sym, ◌∙◌, ap}
use mathlib.Core.Bool.{true}
use lib.Ieee.{Float}
use Rattle.draws.specs.declared.Positions.{Positions}
use Rattle.draws.specs.declared.Refusal.{Refusal}
use Rattle.draws.specs.declared.Kind.{Kind}
use Rattle.draws.specs.Draws.{place, Trial}
use Rattle.draws.specs.Search.{Trials, trial, searched}
use Rattle.draws.proofs.Searches.{Before, none_before, one_more, tells, found_at, halted_at, gives, refuses}
use Rattle.std.specs.Prelude.{Option, Err, None, Ok, Some}

-- `ts q` are the trials counted from q, and `spot k` is where trial k of those from p starts
pub record Walk (ts : Positions → Trials) (p : Positions) (f : ℕ) (spot : ℕ → Positions) : Type 0 where
  pub same : (k : ℕ) → trial (ts (spot k)) 0 ≡ trial (ts p) k
  pub first : p ≡ spot 0
  pub onward : (k : ℕ) → (ts p).after k ≡ spot (suc k)
  pub ends : (k : ℕ) → (ts p).whole k ≡ true → k < f

-- the loop stands at q, the start of some trial, each earlier one having passed
pub record Going (t : Trials) (spot : ℕ → Positions) (q : Positions) : Type 0 where
  pub at : ℕ
  pub here : q ≡ spot at
  pub earlier : Before t at

-- a trial's answer, its first part being known
pub told : {x y : Trial} {a : Option Float × Positions} {o : Option Float} → x ≡ y → x ≡ Ok a → a.0 ≡ o → ◌≡◌ {A = Trial} y (Ok (o, a.1))
told {a = a} e h i = sym e ∙ h ∙ ap (λ (z : Option Float). Ok (z, a.1)) i

module _ {ts : Positions → Trials} {p : Positions} {f : ℕ} {spot : ℕ → Positions} (w : Walk ts p f spot) where
  pub starts : Going (ts p) spot p
  starts = record { at = 0; here = w.first; earlier = none_before (ts p) }

  module _ {q : Positions} (g : Going (ts p) spot q) where
    now_is : {x : Trial} → trial (ts q) 0 ≡ x → trial (ts p) g.at ≡ x
    now_is e = sym (w.same g.at) ∙ ap (λ (z : Positions). trial (ts z) 0) (sym g.here) ∙ e

    pub gives_sample : {v : Float} {q' : Positions} → trial (ts q) 0 ≡ Ok (Some v, q') → searched (ts p) p f ≡ Ok (v, q')
    gives_sample e = gives (ts p) p f w.ends (found_at (ts p) g.earlier (now_is e))

    pub gives_refusal : {r : Refusal} → trial (ts q) 0 ≡ Err r → searched (ts p) p f ≡ Err (r, p)
    gives_refusal e = refuses (ts p) p f w.ends (halted_at (ts p) g.earlier (now_is e))

    -- past a trial that is rejected
    module _ {q' : Positions} (e : trial (ts q) 0 ≡ Ok (None, q')) where
      pub was_whole : (ts p).whole g.at ≡ true
      was_whole = (tells (ts p) g.at (now_is e)).0.0

      pub onwards : q' ≡ spot (suc g.at)
      onwards = (tells (ts p) g.at (now_is e)).1 ∙ w.onward g.at

      -- the measure of a search: where each whole trial has a draw of a kind among n, and the next starts past it, fewer of them are left
      pub fewer : (κ : Kind) {n : ℕ} → ((k : ℕ) → (ts p).whole k ≡ true → (place κ (spot k) < n) × (place κ (spot k) < place κ (spot (suc k))))
          → n - place κ q' < n - place κ q
      fewer κ moves =
          let (h, i) = moves g.at was_whole in
          omega (arith, ap (place κ) g.here, ap (place κ) onwards)

      pub goes : Going (ts p) spot q'
      goes = record { at = suc g.at; here = onwards; earlier = one_more (ts p) g.earlier (tells (ts p) g.at (now_is e)).0 }
