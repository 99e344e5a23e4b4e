-- A refusal that waits for as long as the item lasts.
use Rattle.arriving.proofs.Laws.{waiting_noted, condemned_by}
use Rattle.arriving.proofs.condemned.Goals as goal

pub returns : goal.returns
returns c = condemned_by c.args.within c.args.left c.lasts_in.result c.args.r (waiting_noted c.lasts_in.result c.args.r c.of.ensures c.waiting.ensures) c.lasts_in.ensures
