-- Each way out is what its tests say.
use borrow.Author.Tests.{eq-eqb, ne_eqb}
use Rattle.heads.specs.Head.{unknown_context}
use Rattle.heads.proofs.unknown_context.Goals as goal

pub returns-then-tag-eq1 : goal.returns-then-tag-eq1
unfolding unknown_context
returns-then-tag-eq1 c = simp (eq-eqb _ 1 c.if-tag-eq1.true)

pub returns-else-tag-eq1 : goal.returns-else-tag-eq1
unfolding unknown_context
returns-else-tag-eq1 c = simp (ne_eqb _ 1 c.if-tag-eq1.false)
