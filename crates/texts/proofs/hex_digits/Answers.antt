-- The digits that `io::hex` leaves are the number's text. Assumes nothing.
use Rattle.texts.proofs.Digits.{hex_is}
use Rattle.texts.proofs.hex_digits.Goals as goal

pub returns : goal.returns
returns c = hex_is c.ranges.n.fits c.hex-k.ensures.len c.hex-k.ensures.digits
