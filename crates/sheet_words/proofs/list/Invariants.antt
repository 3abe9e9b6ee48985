-- The loop's invariant, `Turn`: the words met so far, and what is left of the list at `next`. Assumes nothing.
use Rattle.std.proofs.Common.{drop}
use Rattle.sheet_words.specs.Bytes.{word_list}
use Rattle.sheet_words.proofs.Spanning.{Turn}
use Rattle.sheet_words.proofs.list.Given as goal

abbrev pub invariant-loop-met : goal.invariant-loop-met
invariant-loop-met l = Turn l.s l.at l.most (word_list l.most (drop l.at l.s)) l.met l.next
