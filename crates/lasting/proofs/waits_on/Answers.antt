-- Behind what it waited for.
use Rattle.lasting.proofs.Laws.{waits_passes}
use Rattle.lasting.proofs.waits_on.Goals as goal

pub returns : goal.returns
returns c = waits_passes c.args.x c.args.p c.args.u.now c.args.left c.args.m c.args.refusal c.requires c.further.ensures
