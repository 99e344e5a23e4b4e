-- By the arm of the match; in an open group also by the test for its end mark.
use mathlib.Core.Path.{sym, ◌∙◌}
use Rattle.ahead.specs.Ahead.{item_here}
use Rattle.ahead.proofs.item_here.Goals as goal

pub returns-then-ends_open : goal.returns-then-ends_open
unfolding item_here
returns-then-ends_open c = simp (c.in-Open.is, sym c.ends_open.ensures ∙ c.if-ends_open.true)

pub returns-in-Root : goal.returns-in-Root
unfolding item_here
returns-in-Root c = simp c.in-Root.is

pub returns-in-Definite : goal.returns-in-Definite
unfolding item_here
returns-in-Definite c = simp c.in-Definite.is

pub returns-else-ends_open : goal.returns-else-ends_open
unfolding item_here
returns-else-ends_open c = simp (c.in-Open.is, sym c.ends_open.ensures ∙ c.if-ends_open.false)
