-- `split_normal` meets its contract by `digits_normal`.
use Rattle.kernels.proofs.Patterns.{digits_normal}
use Rattle.kernels.proofs.split_normal.Goals as goal

pub returns : goal.returns
returns c = digits_normal c.args.b c.requires.0 c.requires.1
