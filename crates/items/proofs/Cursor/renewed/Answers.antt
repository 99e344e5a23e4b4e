-- By the arm of the match.
use mathlib.Core.Path.{ap, sym}
use Rattle.items.specs.Walk.{cursor}
use Rattle.items.proofs.Cursor.renewed.Goals as goal

pub returns-in-Root : goal.returns-in-Root
returns-in-Root c = ap (cursor _) (sym c.in-Root.is)

pub returns-in-Definite : goal.returns-in-Definite
returns-in-Definite c = ap (cursor _) (sym c.in-Definite.is)

pub returns-in-Open : goal.returns-in-Open
returns-in-Open c = ap (cursor _) (sym c.in-Open.is)
