-- By the arm of the match, each answer is the definition's clause.
use mathlib.Core.Path.{sym, ap}
use Rattle.items.specs.Walk.{ended}
use Rattle.items.proofs.end_of.Goals as goal

pub returns-in-Open : goal.returns-in-Open
returns-in-Open c = ap ended (sym c.in-Open.is)
