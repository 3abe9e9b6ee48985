-- Each turn reads one line at most, so that the tally's sums stay in range: a line that agrees and one that does not each add 1 to the lines read.
use Rattle.std.proofs.Common.{◌≡◌, ℕ, Bool, true, false, ◌+◌, ◌≤◌, arith}
use Rattle.test_kernels_replay.specs.Tallies.{counted_of}
use Rattle.test_kernels_replay.specs.declared.Tally.{Tally}
use Rattle.test_kernels_replay.proofs.replay.Goals as goal

one_more : (n : ℕ) (t u : Tally) (a : Bool) → u ≡ counted_of t a → t.agree ≤ t.read → t.read ≤ n → (u.agree ≤ u.read) × (u.read ≤ n + 1)
unfolding counted_of
one_more n t u true e some all = rw e (omega arith, omega arith)
one_more n t u false e some all = rw e (omega arith, omega arith)

pub loop-preserved : goal.loop-preserved
loop-preserved g c = one_more _ _ _ _ c.counted-t.ensures c.loop.invariant.0 c.loop.invariant.1
