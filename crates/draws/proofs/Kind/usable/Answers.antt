-- A kind's tests are the rule's, in its order; `finite_test` is the whole of a normal's.
use lib.Ieee.{of_bits}
use mathlib.Core.Path.{sym, ◌∙◌}
use Rattle.draws.specs.Draws.{usable}
use Rattle.draws.proofs.Finite.{finite_test}
use Rattle.draws.proofs.Kind.usable.Goals as goal

pub returns-then-x : goal.returns-then-x
unfolding usable of_bits
returns-then-x c = rw (c.in-Uniform.is, c.if-x.true)

pub returns-else-x : goal.returns-else-x
unfolding usable of_bits
returns-else-x c = rw (c.in-Uniform.is, c.if-x.false)

pub returns-in-Normal : goal.returns-in-Normal
unfolding usable of_bits
returns-in-Normal c = rw c.in-Normal.is (finite_test c.args.x)

pub returns-then-x-2 : goal.returns-then-x-2
unfolding usable of_bits
returns-then-x-2 c = rw (c.in-Exponential.is, sym (finite_test c.args.x) ∙ c.if-x-2.true)

pub returns-else-x-2 : goal.returns-else-x-2
unfolding usable of_bits
returns-else-x-2 c = rw (c.in-Exponential.is, c.if-x-2.false, sym (finite_test c.args.x) ∙ c.if-x-2.false)
