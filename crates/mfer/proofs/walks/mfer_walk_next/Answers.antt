-- By the step that the walk comes to.
use Rattle.mfer.proofs.Handed.{next_handed}
use Rattle.mfer.proofs.walks.mfer_walk_next.Goals as goal

pub returns : goal.returns
returns c = next_handed c.next.ensures c.step_out.ensures
