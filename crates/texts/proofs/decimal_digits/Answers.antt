-- The digits that `io::decimal` leaves are the number's text. Assumes nothing.
use Rattle.texts.proofs.Digits.{decimal_is}
use Rattle.texts.proofs.decimal_digits.Goals as goal

pub returns : goal.returns
returns c = decimal_is c.ranges.n.fits c.decimal-k.ensures.len c.decimal-k.ensures.digits
