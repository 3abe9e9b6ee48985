-- Whole numbers: squares, and what a test tells.
use mathlib.Core.Path.{◌≡◌}
use mathlib.Core.Bool.{Bool, true, false, cond, not}
use Prim.Native.Nat.{ℕ, ◌+◌, ◌*◌}
use native.Mathlib.Nat.{mul_assoc, mul_comm, mul_left_comm, mul-add, add-mul}
use native.Mathlib.Omega.{arith}
use lib.Dec.{T}

pub next : (r : ℕ) → (r + 1) * (r + 1) ≡ r * r + 2 * r + 1
next r = simp (mul-add, add-mul, mul_comm) (omega arith)

pub twice : (r : ℕ) → 2 * r * (2 * r) ≡ 4 * (r * r)
twice r = simp (mul_assoc, mul_left_comm) (omega arith)

-- what holds of both, each under its answer to the test
pub by_cond : {X : Type 0} (P : X → Type 0) (b : Bool) (x y : X) → (T b → P x) → (T (not b) → P y) → P (cond b x y)
by_cond P true x y f g = f tt
by_cond P false x y f g = g tt
