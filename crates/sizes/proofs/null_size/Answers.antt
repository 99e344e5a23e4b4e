-- Each way out is what its test says.
use borrow.Author.Tests.{eq-eqb, ne_eqb}
use Rattle.sizes.proofs.null_size.Goals as goal

pub returns-then-null-eq0 : goal.returns-then-null-eq0
returns-then-null-eq0 c = simp (eq-eqb _ 0 c.if-null-eq0.true)

pub returns-else-null-eq0 : goal.returns-else-null-eq0
returns-else-null-eq0 c = simp (ne_eqb _ 0 c.if-null-eq0.false)
