-- By the arm of the match; in an open group also by the test for its end mark.
use mathlib.Core.Path.{sym, ◌∙◌}
use Rattle.link.specs.Link.{within_after}
use Rattle.ahead.proofs.within_after.Goals as goal

pub returns-then-ends_open : goal.returns-then-ends_open
unfolding within_after
returns-then-ends_open c = simp (c.in-Open.is, sym c.ends_open.ensures ∙ c.if-ends_open.true)

pub returns-in-Root : goal.returns-in-Root
unfolding within_after
returns-in-Root c = simp c.in-Root.is

pub returns-in-Definite : goal.returns-in-Definite
unfolding within_after
returns-in-Definite c = simp c.in-Definite.is

pub returns-else-ends_open : goal.returns-else-ends_open
unfolding within_after
returns-else-ends_open c = simp (c.in-Open.is, sym c.ends_open.ensures ∙ c.if-ends_open.false)
