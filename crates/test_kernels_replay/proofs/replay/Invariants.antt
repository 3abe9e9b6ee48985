-- Each turn reads one line at most, so that the tally's sums stay in range.
use Rattle.std.proofs.Common.{◌≤◌}
use Rattle.test_kernels_replay.proofs.replay.Given as goal

abbrev pub invariant-loop : goal.invariant-loop
invariant-loop g l = (l.t.agree ≤ l.t.read) × (l.t.read ≤ l.counter)
