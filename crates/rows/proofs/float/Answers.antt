-- By the test.
use mathlib.Core.Path.{◌∙◌}
use borrow.Author.Tests.{lt-ltb, le-ltb}
use Rattle.rows.proofs.float.Goals as goal

pub returns-then-infinity-bits : goal.returns-then-infinity-bits
returns-then-infinity-bits c = c.other.ensures ∙ simp (lt-ltb _ _ c.if-infinity-bits.true)

pub returns : goal.returns
returns c = c.other-2.ensures ∙ simp (le-ltb _ _ c.if-infinity-bits.false)
