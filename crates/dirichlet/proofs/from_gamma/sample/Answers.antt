-- Each sample times 1/sum is the rule's vector.
use Prim.Native.Nat.{ℕ}
use mathlib.Core.Path.{◌≡◌, sym, ◌∙◌}
use mathlib.Core.List.{List, map}
use lib.Ieee.{Float, of_bits}
use Rattle.std.specs.Prelude.{Ok, Err}
use Rattle.kernels.specs.Numbers.{◌⊗◌, ◌⊘◌, nought, one}
use Rattle.draws.specs.Draws.{Draw, Drawn}
use Rattle.draws.specs.Fill.{samples}
use Rattle.draws.specs.declared.Positions.{Positions}
use Rattle.draws.specs.declared.Refusal.{Refusal}
use Rattle.draws.proofs.Exits.{handed}
use Rattle.dirichlet_alpha.specs.Answers.{Routed}
use Rattle.dirichlet.specs.FromGamma.{sum_from, gamma_vector, gamma_route, Drew}
use Rattle.dirichlet.proofs.GammaSamples.{drew_past, drew_refused}
use Rattle.dirichlet.proofs.from_gamma.sample.Goals as goal

module _ (s : ℕ → Positions → Drawn) (n : ℕ) (p : Positions) {x : Draw} {left : List Float} (h : Drew (samples s 0 n p) (sum_from nought) x left) where
  scaled : {last : List Float} {sum : Float} {q : Positions} → x ≡ Ok (sum, q) → last ≡ map (λ (v : Float). v ⊗ (one ⊘ sum)) left → Routed (gamma_route s n p) (Ok q) last
  unfolding gamma_route gamma_vector
  scaled e d = let (c, a) = drew_past (sum_from nought) (samples s 0 n p) (sym e ∙ h.outcome_is) h.cells_are in record { answer_is = rw c; cells_are = rw c (d ∙ rw (← a)) }

  refused : {r : Refusal} → x ≡ Err r → Routed (gamma_route s n p) (Err r) left
  unfolding gamma_route
  refused e = let c = drew_refused (sum_from nought) (samples s 0 n p) (sym e ∙ h.outcome_is) in record { answer_is = rw c; cells_are = rw c }

pub returns-in_err-sum : goal.returns-in_err-sum
returns-in_err-sum c = rw (handed c.from_residual.ensures) (refused _ _ _ c.gamma_samples.ensures c.in_err-sum.was)

pub returns : goal.returns
unfolding of_bits
returns c = scaled _ _ _ c.gamma_samples.ensures c.in_ok-sum.was c.scale.ensures
