-- The loop's invariant, `Stored`: the first k cells hold the first k words, and the others are as lent. Assumes nothing.
use Rattle.sheet.proofs.Storing.{Stored}
use Rattle.sheet.proofs.store.Given as goal

abbrev pub invariant-loop-k : goal.invariant-loop-k
invariant-loop-k l = Stored l.s l.initial.out l.k-end l.initial.next l.out l.k l.next
