-- `refine` meets its contract by the laws of Refining.antt.
use native.Mathlib.Omega.{arith}
use Rattle.roots.proofs.Refining.{left, kept, lowered}
use Rattle.roots.proofs.Root.refine.Goals as goal

pub overflow_mul-v-2 : goal.overflow_mul-v-2
overflow_mul-v-2 c = omega (arith, left _ _ _ _ _ c.requires)

pub overflow_add-v : goal.overflow_add-v
overflow_add-v c = omega (arith, left _ _ _ _ _ c.requires)

pub returns-then-q-v : goal.returns-then-q-v
returns-then-q-v c = kept _ _ _ _ _ c.requires c.if-q-v.true

pub returns-else-q-v : goal.returns-else-q-v
returns-else-q-v c = lowered _ _ _ _ _ c.requires c.if-q-v.false
