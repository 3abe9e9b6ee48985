-- A turn adds the float of the next word.
use Prim.Native.Nat.{ℕ, ◌+◌, ◌<◌}
use native.Mathlib.Omega.{arith}
use mathlib.Core.Path.{◌≡◌}
use mathlib.Core.List.{List}
use lib.ListN.{length, get_or, take, set, length-set}
use lib.Ieee.{Float}
use Rattle.std.proofs.lemmas.List.{take_more, take_more_set, map_push}
use Rattle.sheet_answer.specs.Outcomes.{float, floats}
use Rattle.sheet_answer.proofs.floats.Goals as goal

one_more : (ws : List ℕ) (out : List Float) (i : ℕ) {v : Float} → i < length ws → i < length out → take i out ≡ floats (take i ws) → v ≡ float (get_or ws i 0)
    → take (i + 1) (set out i v) ≡ floats (take (i + 1) ws)
one_more ws out i {v} l m h e = rw (take_more_set out i v m, take_more ws i 0 l, map_push, h, e)

pub loop-i-preserved : goal.loop-i-preserved
loop-i-preserved c =
    let h = c.loop-i.invariant in
    record { long = simp length-set h.long; so_far = one_more _ _ _ c.loop-i-test.true (omega arith) h.so_far c.float_of.ensures }
