-- Each way out is what its tests say.
use borrow.Author.Tests.{eq-eqb, ne_eqb}
use Rattle.items.proofs.ends_open.Goals as goal

pub returns-then-tag-eq0 : goal.returns-then-tag-eq0
returns-then-tag-eq0 c = simp (eq-eqb _ 0 c.if-tag-eq0.true)

pub returns-else-tag-eq0 : goal.returns-else-tag-eq0
returns-else-tag-eq0 c = simp (ne_eqb _ 0 c.if-tag-eq0.false)
