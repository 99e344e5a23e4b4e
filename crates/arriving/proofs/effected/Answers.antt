-- The item is carried out where the link is marked.
use Rattle.arriving.proofs.Laws.{effected_turns}
use Rattle.arriving.proofs.effected.Goals as goal

pub returns : goal.returns
returns c = effected_turns c.args.left c.args.cursor c.args.effect c.marked-m.ensures c.take-k.ensures c.turned.ensures
