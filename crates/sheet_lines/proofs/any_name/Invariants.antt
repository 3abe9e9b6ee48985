-- The loop's invariant: the names up to the one at hand are wrong, so that the others tell what is read. Assumes nothing.
use Rattle.std.proofs.Common.{◌≡◌, drop}
use Rattle.sheet_lines.specs.Lines.{any_name_lem}
use Rattle.sheet_lines.proofs.Names.{first_of}
use Rattle.sheet_lines.proofs.any_name.Given as goal

abbrev pub invariant-loop-k : goal.invariant-loop-k
invariant-loop-k l = any_name_lem (drop l.at l.s) ≡ first_of (drop l.k-index l.k-items) (drop l.at l.s)
