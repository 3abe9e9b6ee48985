-- `rounded_root` meets its contract: within its range by `round_up` and `round_down`, since there is no other nearest number; outside it at once.
use native.Mathlib.Omega.{arith}
use Rattle.roots.proofs.Roots.{root_pos, round_up, round_down, inside, outside}
use Rattle.roots.proofs.rounded_root.Goals as goal

pub returns-then-r : goal.returns-then-r
returns-then-r c = inside _ _ (omega arith) (omega arith) (round_up _ _ _ c.floor_root-r.ensures c.if-r.true)

pub returns-else-r : goal.returns-else-r
returns-else-r c =
    let f = c.floor_root-r.ensures in
    inside _ _ (omega arith) (omega arith) (round_down _ _ _ f (root_pos c.args.m _ _ (omega arith) f) c.if-r.false)

pub returns-else-m-ge4503599627370496 : goal.returns-else-m-ge4503599627370496
returns-else-m-ge4503599627370496 c = outside _ (λ l h. omega arith)
