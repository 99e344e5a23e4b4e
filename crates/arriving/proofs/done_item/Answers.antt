-- The item with its effect.
use Rattle.arriving.proofs.Laws.{done_turns}
use Rattle.arriving.proofs.done_item.Goals as goal

pub returns : goal.returns
returns c = done_turns c.args.v.now c.args.tag c.within_of-within.ensures c.item_at-item.ensures c.item_effect-effect.ensures c.within_after.ensures c.effected.ensures
