-- Each way out is what its test says.
use borrow.Author.Tests.{eq-eqb, ne_eqb}
use Rattle.sizes.proofs.sequences_size.Goals as goal

pub returns-then-sequences-eq0 : goal.returns-then-sequences-eq0
returns-then-sequences-eq0 c = simp (eq-eqb _ 0 c.if-sequences-eq0.true)

pub returns-else-sequences-eq0 : goal.returns-else-sequences-eq0
returns-else-sequences-eq0 c = simp (ne_eqb _ 0 c.if-sequences-eq0.false)
