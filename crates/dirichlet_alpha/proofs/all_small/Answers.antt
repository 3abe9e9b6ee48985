-- The rule asks of each element what the closure asks of it.
use Rattle.std.proofs.Common.{rules, tests}
use Rattle.std.proofs.lemmas.Iterator.{YieldsList-from_slice}
use Rattle.std.proofs.lemmas.Iterator.Search.{all_from_yields_List}
use Rattle.kernels.specs.Numbers.{quotient}
use lib.Ieee.{Float, le, round, of_bits}
use Rattle.dirichlet_alpha.specs.Alpha.{all_small_lem}
use Rattle.dirichlet_alpha.proofs.all_small.Goals as goal

pub returns : goal.returns
unfolding all_small_lem quotient round of_bits
returns c = all_from_yields_List (λ (x : Float). le x (quotient 1 10)) _ _ _ c.all.ensures.ran (YieldsList-from_slice c.args.alpha.now cc) (λ x b q k. search (rules, tests))
