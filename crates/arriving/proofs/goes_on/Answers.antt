-- Where the walk stands is another, and what is around it.
use Rattle.arriving.proofs.Laws.{goes_on}
use Rattle.arriving.proofs.goes_on.Goals as goal

pub returns : goal.returns
returns c = goes_on c.within_of.ensures c.group_at.ensures
