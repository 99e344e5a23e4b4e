-- By the arm of the match.
use mathlib.Core.Path.{ap, sym}
use Rattle.verdict.specs.Verdict.{place_at}
use Rattle.verdict.proofs.place_of.Goals as goal

pub returns-in-Plain : goal.returns-in-Plain
unfolding place_at
returns-in-Plain c = ap place_at (sym c.in-Plain.is)

pub returns-in-Group : goal.returns-in-Group
unfolding place_at
returns-in-Group c = ap place_at (sym c.in-Group.is)

pub returns-in-Member : goal.returns-in-Member
unfolding place_at
returns-in-Member c = ap place_at (sym c.in-Member.is)

pub returns-in-Mark : goal.returns-in-Mark
unfolding place_at
returns-in-Mark c = ap place_at (sym c.in-Mark.is)
