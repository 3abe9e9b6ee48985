-- `floor_root` meets its contract: its three refinements have roots of 14, 27 and 53 digits, of the leading 28 digits of m, of all 54, and of m * 2 ^ 52.
use native.Mathlib.Omega.{arith}
use Rattle.roots.proofs.Refining.{by_root, by_start}
use Rattle.roots.proofs.floor_root.Goals as goal

pub refine-requires : goal.refine-requires
refine-requires c = by_start _ _ _ _ c.root_start-e.ensures (omega arith) (omega arith) (omega arith) (omega arith)

pub refine-requires-2 : goal.refine-requires-2
refine-requires-2 c = by_root 8192 _ _ _ _ _ c.refine.ensures (omega arith) (omega arith) (omega arith) (omega arith) (omega arith) (omega arith)

pub refine-requires-3 : goal.refine-requires-3
refine-requires-3 c = by_root 67108864 _ _ _ _ _ c.refine-2.ensures (omega arith) (omega arith) (omega arith) (omega arith) (omega arith) (omega arith)
