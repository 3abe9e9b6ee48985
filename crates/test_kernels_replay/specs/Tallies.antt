-- One line more in the tally. Definitions only.
use Rattle.std.specs.Prelude.{◌+◌, Bool, true, false, Some, unwrap_or}
use Rattle.test_kernels_replay.specs.declared.Tally.{Tally}

-- the first line that does not agree is kept
unfoldable pub counted_of : Tally → Bool → Tally
counted_of t true = record { read = t.read + 1; agree = t.agree + 1; first = t.first }
counted_of t false = record { read = t.read + 1; agree = t.agree; first = Some (unwrap_or t.first (t.read + 1)) }
