-- The group with its effect.
use Rattle.arriving.proofs.Laws.{group_turns}
use Rattle.arriving.proofs.group_begins.Goals as goal

pub returns : goal.returns
returns c = group_turns _ c.args.left c.args.channel c.args.within c.item_effect-effect.ensures c.effected.ensures
