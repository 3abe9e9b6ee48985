-- `even` meets its contract by `even_places` and `odd_places`: an odd exponent gives one place to the significand.
use Rattle.kernels.proofs.Scaling.{even_places, odd_places}
use Rattle.kernels.proofs.root.even.Goals.{then-p-eq0, else-p-eq0}
use Rattle.kernels.proofs.root.even.Goals as goal

pub returns : goal.returns
returns c =
    let p = c.args.p in
    elim c.if-p-eq0.branch [
      | then-p-eq0 w ↦ rw w.result-is (even_places p.digits p.places w.if-p-eq0.true)
      | else-p-eq0 w ↦ rw w.result-is (odd_places p.digits p.places w.if-p-eq0.false)
    ]
