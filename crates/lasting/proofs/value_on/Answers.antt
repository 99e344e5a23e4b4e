-- Behind the octets of the value.
use Rattle.lasting.proofs.Laws.{value_passes}
use Rattle.lasting.proofs.value_on.Goals as goal

pub returns : goal.returns
returns c = value_passes c.args.x c.args.p c.args.u.now c.args.left c.args.m c.args.tag c.requires c.smaller-n.ensures c.smaller.ensures c.part.ensures c.joined-octets.ensures c.further.ensures
