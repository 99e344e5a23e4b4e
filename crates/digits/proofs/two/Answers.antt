-- The part is short enough to be read whole, and so its number fits.
use lib.Dec.{lit≤}
use Rattle.octets.proofs.Laws.{part_read, part_fits}
use Rattle.digits.proofs.two.Goals as goal

pub overflow_cast-result : goal.overflow_cast-result
overflow_cast-result c = record { fits = part_fits c.args.little 2 c.args.s.now _ (lit≤ tt) c.part.ensures c.number.ensures }

pub returns : goal.returns
returns c = part_read c.args.little 2 c.args.s.now _ (lit≤ tt) c.part.ensures c.number.ensures
