-- The first i words are turned into the first i cells.
use Rattle.std.proofs.Common.{◌≡◌, length, take}
use Rattle.sheet_answer.specs.Outcomes.{floats}
use Rattle.sheet_answer.proofs.floats.Given as goal

abbrev pub invariant-loop-i : goal.invariant-loop-i
invariant-loop-i l = record { long : length l.out ≡ 64; so_far : take l.i l.out ≡ floats (take l.i l.words) }
