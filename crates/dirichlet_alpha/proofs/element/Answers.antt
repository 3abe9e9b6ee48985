-- Each return is the rule's at the answers to the tests, taken in its order.
use mathlib.Core.Path.{◌≡◌, refl}
use mathlib.Core.Bool.{Bool, true, false}
use Prim.Native.Nat.{ℕ}
use lib.IntN.{negsuc}
use lib.Ieee.{Float, inf, lt, eq, div, of_bits}
use Rattle.kernels.specs.Numbers.{nought, pow2}
use Rattle.dirichlet_alpha.specs.Alpha.{judged, element_of}
use Rattle.dirichlet_alpha.proofs.element.Goals as goal

by_tests : (x : Float) (i : ℕ) (a b c : Bool) → lt nought x ≡ a → eq x (inf false) ≡ b → lt x (pow2 (negsuc 1021)) ≡ c → judged a b c i ≡ element_of x i
unfolding element_of
by_tests x i a b c e f g = rw (← e, ← f, ← g)

pub returns-then-not-x : goal.returns-then-not-x
unfolding judged of_bits
returns-then-not-x c = by_tests _ _ false _ _ c.if-not-x.true refl refl

pub returns-then-x : goal.returns-then-x
unfolding judged of_bits div
returns-then-x c = by_tests _ _ true true _ c.if-not-x.false c.if-x.true refl

pub returns-then-x-2 : goal.returns-then-x-2
unfolding judged of_bits div
returns-then-x-2 c = by_tests _ _ true false true c.if-not-x.false c.if-x.false c.if-x-2.true

pub returns : goal.returns
unfolding judged of_bits div
returns c = by_tests _ _ true false false c.if-not-x.false c.if-x.false c.if-x-2.false
