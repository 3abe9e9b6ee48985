-- The cells from i on have their tails, each the tail after the next plus an element.
use Prim.Native.Nat.{suc, ◌-◌}
use native.Mathlib.Numerals.{add-one}
use native.Mathlib.Omega.{arith}
use mathlib.Core.Path.{◌≡◌, sym}
use lib.ListN.{length, length-set}
use lib.Ieee.{Float}
use Rattle.dirichlet.proofs.BetaCells.{tail_next, tail_last, tails_from}
use Rattle.dirichlet.proofs.from_beta.tails.Goals as goal

pub loop-i-init : goal.loop-i-init
loop-i-init c =
    let n = length c.args.alpha.elements.now in
    let last : suc (n - 2) ≡ n - 1 = omega arith in
    tails_from _ _ (omega arith) (rw (← last) (sym (tail_last _ (n - 2) (omega arith)))) (λ k m l. absurd (omega arith))

pub loop-i-preserved : goal.loop-i-preserved
loop-i-preserved c =
    let i = c.loop-i.i - 1 in
    tails_from _ _ (omega (arith, length-set {A = Float})) (rw (add-one i, c.loop-i.invariant (suc i) (omega arith) (omega arith)) (sym (tail_next _ i (omega arith)))) (λ k m l. c.loop-i.invariant k (omega arith) l)
