-- What a single sample comes to, told by what its sampler draws: a fill of one element has one sample to take.
use mathlib.Core.List.{List, ◌∷◌}
use mathlib.Core.Path.{◌≡◌}
use mathlib.Core.Bool.{true, false}
use lib.Ieee.{Float}
use Rattle.std.specs.Prelude.{Ok, Err}
use Rattle.kernels.specs.Numbers.{nought}
use Rattle.draws.specs.Draws.{Lent, placed, Drawn}
use Rattle.draws.specs.Refusals.{named}
use Rattle.draws.specs.Fill.{samples}
use Rattle.draws.specs.declared.Positions.{Positions}
use Rattle.draws.specs.declared.Refusal.{Refusal}
use Rattle.draws.specs.declared.Refusal.TheVariants.{Above}
use Rattle.reports.specs.Reports.{numbered}
use Rattle.reports.specs.Calls.{ended, sample_ended}

module _ (s : Lent → Positions → Drawn) (l : Lent) (p : Positions) (x : Float) {xs : List Float} where
  -- a position above its slice: all as lent
  pub sample_above : placed l p ≡ false → sample_ended (Ok s) l p (x ∷ xs) ≡ ended (named Above) p (x ∷ xs)
  sample_above h = rw (h)

  -- else the sample in the first cell, with the positions past its draws
  pub sample_given : {q : Positions} {v : Float} → placed l p ≡ true → s l p ≡ Ok (v, q) → sample_ended (Ok s) l p (x ∷ xs) ≡ ended (numbered 0) q (v ∷ xs)
  unfolding samples
  sample_given h e = rw (h, e)

  -- or +0 there, and the positions as lent
  pub sample_refused : {q : Positions} {r : Refusal} → placed l p ≡ true → s l p ≡ Err (r, q) → sample_ended (Ok s) l p (x ∷ xs) ≡ ended (named r) p (nought ∷ xs)
  unfolding samples
  sample_refused h e = rw (h, e)
