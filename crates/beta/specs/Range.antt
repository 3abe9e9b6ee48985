-- Document 02, #110: 'for normal positive alpha and beta whose sum is finite, each sample of Beta returned is a number, at least 0 and at most 1.'
-- Definitions only.
use Rattle.std.specs.Prelude.{ℕ, ◌≡◌, List, true, get_or, T, negsuc, Float}
use Rattle.std.specs.Float.{nan, binary64}
use Rattle.std.specs.Float.Ieee.{le, fits}
use Rattle.kernels.specs.Numbers.{◌⊕◌, pow2, nought, one, finite, clear}

-- 'normal positive': a value of binary64, finite and at least 2^-1022
pub record Normal (x : Float) : Type 0 where
  pub held : T (fits binary64 x)
  pub finite_is : finite x ≡ true
  pub least : le (pow2 (negsuc 1021)) x ≡ true

-- 'whose sum is finite': the sum as the sampler forms it, rounded
pub record Covered (alpha beta : Float) : Type 0 where
  pub alpha_is : Normal alpha
  pub beta_is : Normal beta
  pub sum_is : finite (alpha ⊕ beta) ≡ true

-- what a slice of f64 holds: values of binary64
abbrev pub Held : List Float → Type 0
Held xs = (i : ℕ) → T (fits binary64 (get_or xs i nan))

-- 'a number, at least 0 and at most 1', and it is not -0
pub record InUnit (v : Float) : Type 0 where
  pub at_least : le nought v ≡ true
  pub at_most : le v one ≡ true
  pub clear_is : clear v ≡ true
