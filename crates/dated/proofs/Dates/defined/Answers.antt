-- One time is noted, and now is one later.
use Rattle.dated.proofs.Dates.defined.Goals as goal

pub returns : goal.returns
returns c = rw c.timed-times.ensures
