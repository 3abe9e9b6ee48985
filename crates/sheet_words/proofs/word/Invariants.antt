-- The loop's invariant: the number at `at` is read as the digits left are read at `end`, after those that make n, and there is room in 64 bits
-- for all of them. Assumes nothing.
use Rattle.std.proofs.Common.{◌≡◌, ◌-◌, drop}
use Rattle.sheet_words.specs.Bytes.{word, hex_from}
use Rattle.sheet_words.proofs.AtPosition.{Room}
use Rattle.sheet_words.proofs.word.Given as goal

abbrev pub invariant-loop : goal.invariant-loop
invariant-loop l = record {
  so_far : word (drop l.at l.s) ≡ hex_from (16 - l.counter) l.n (drop l.end l.s);
  room : Room (16 - l.counter) l.n;
}
