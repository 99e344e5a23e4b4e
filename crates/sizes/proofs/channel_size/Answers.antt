-- Each way out is what its tests say.
use borrow.Author.Tests.{lt-ltb, le-ltb}
use Rattle.sizes.proofs.channel_size.Goals as goal

pub returns-then-k-lt128 : goal.returns-then-k-lt128
returns-then-k-lt128 c = simp (lt-ltb _ 128 c.if-k-lt128.true)

pub returns-else-k-lt128 : goal.returns-else-k-lt128
returns-else-k-lt128 c = simp (le-ltb _ 128 c.if-k-lt128.false)
