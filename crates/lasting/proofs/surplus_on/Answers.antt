-- Behind the surplus.
use Rattle.lasting.proofs.Laws.{surplus_passes}
use Rattle.lasting.proofs.surplus_on.Goals as goal

pub returns : goal.returns
returns c = surplus_passes c.args.x c.args.p c.args.u.now c.args.left c.args.m c.args.at c.requires c.further-y.ensures c.at_sample.ensures
