-- By the test.
use borrow.Author.Tests.{le-leb, lt-leb}
use Rattle.records.proofs.behind_from.Goals as goal

pub returns-then-at-cleared : goal.returns-then-at-cleared
returns-then-at-cleared c = simp (le-leb _ _ c.if-at-cleared.true)

pub returns-else-at-cleared : goal.returns-else-at-cleared
returns-else-at-cleared c = simp (lt-leb _ _ c.if-at-cleared.false)
