-- By the arm of the match, and by the test on the group's end.
use mathlib.Core.Path.{sym, ap}
use borrow.Author.Tests.{lt-ltb, le-ltb}
use Rattle.items.specs.Walk.{stands_in}
use Rattle.items.proofs.stands_in.Goals as goal

pub returns-then-at-end : goal.returns-then-at-end
returns-then-at-end c = simp (c.in-Definite.is, lt-ltb _ _ c.if-at-end.true)

pub returns-else-at-end : goal.returns-else-at-end
returns-else-at-end c = simp (c.in-Definite.is, le-ltb _ _ c.if-at-end.false)

pub returns-in-Open : goal.returns-in-Open
returns-in-Open c = ap (stands_in _) (sym c.in-Open.is)
