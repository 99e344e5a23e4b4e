-- Where an end is 3 alone is another.
use Rattle.arriving.proofs.Laws.{marked_by_lem}
use Rattle.arriving.proofs.marked.Goals as goal

pub returns : goal.returns
returns c = marked_by_lem c.args.x c.within_of.ensures c.cut_at.ensures
