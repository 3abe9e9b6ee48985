-- The loop's invariant: the text at `at` is read as what is left of it is read at `end`. Assumes nothing.
use Rattle.std.proofs.Common.{◌≡◌, drop}
use Rattle.sheet_words.specs.Bytes.{fixed}
use Rattle.sheet_words.proofs.past.Given as goal

abbrev pub invariant-loop-wanted : goal.invariant-loop-wanted
invariant-loop-wanted l = fixed l.text (drop l.at l.s) ≡ fixed (drop l.wanted-index l.text) (drop l.end l.s)
