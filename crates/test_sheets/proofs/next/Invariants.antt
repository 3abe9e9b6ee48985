-- The bytes stored so far are what the reader gave.
use Rattle.std.proofs.Common.{take}
use Rattle.std.specs.Io.KnownBytes.{Consumes}
use Rattle.test_sheets.proofs.next.Given as goal

abbrev pub invariant-loop-count : goal.invariant-loop-count
invariant-loop-count g l = Consumes (g.R.Read.remaining l.initial.from) (g.R.Read.remaining l.from) (take l.count l.input)
