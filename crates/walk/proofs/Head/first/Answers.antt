-- The first of each part.
use Rattle.walk.proofs.Head.first.Goals as goal

pub returns : goal.returns
returns c = rw (c.first-cursor.ensures, c.first-standing.ensures, c.first-dates.ensures)
