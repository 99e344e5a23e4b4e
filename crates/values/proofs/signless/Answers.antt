-- By the test.
use borrow.Author.Tests.{lt-ltb, le-ltb}
use Rattle.values.specs.Told.{signless}
use Rattle.values.proofs.signless.Goals as goal

pub returns-then-bits-sign : goal.returns-then-bits-sign
unfolding signless
returns-then-bits-sign c = simp (lt-ltb _ _ c.if-bits-sign.true)

pub returns-else-bits-sign : goal.returns-else-bits-sign
unfolding signless
returns-else-bits-sign c = simp (le-ltb _ _ c.if-bits-sign.false)
