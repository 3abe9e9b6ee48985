-- The three tests in order, and what is known where one fails.
use borrow.Author.Tests.{le-leb, lt-leb}
use mathlib.Core.Bool.{true, false, true≢false}
use mathlib.Core.Path.{◌≡◌, sym, ◌∙◌}
use Rattle.draws.specs.Draws.{placed}
use Rattle.draws.proofs.Lent.placed.Goals as goal
use Rattle.draws.proofs.Lent.placed.Goals.{then-at-self, else-at-self}

pub returns-then-at-self-2 : goal.returns-then-at-self-2
unfolding placed
returns-then-at-self-2 c =
    elim c.if-at-self.branch [
      | then-at-self w ↦ rw (le-leb _ _ w.if-at-self.true, sym w.value-is ∙ c.if-at-self-2.true)
      | else-at-self w ↦ let h : true ≡ false = sym c.if-at-self-2.true ∙ w.value-is ∙ lt-leb _ _ w.if-at-self.false in absurd (true≢false h)
    ]

pub returns-else-at-self-2 : goal.returns-else-at-self-2
unfolding placed
returns-else-at-self-2 c =
    elim c.if-at-self.branch [
      | then-at-self w ↦ rw (c.if-at-self-2.false, le-leb _ _ w.if-at-self.true, sym w.value-is ∙ c.if-at-self-2.false)
      | else-at-self w ↦ rw (c.if-at-self-2.false, lt-leb _ _ w.if-at-self.false)
    ]
