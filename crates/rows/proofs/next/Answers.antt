-- By the two tests, as the definition goes.
use Prim.Native.Nat.{◌+◌}
use native.Mathlib.Omega.{arith}
use borrow.Author.Tests.{lt-ltb, le-ltb}
use Rattle.link.specs.Link.{next_coming}
use Rattle.rows.proofs.next.Goals as goal

pub returns-then-behind-from : goal.returns-then-behind-from
unfolding next_coming
returns-then-behind-from c =
    simp (lt-ltb (c.args.at.index + 1) c.args.block (omega arith)) (rw c.from-behind.ensures)

pub returns-then-beside-from : goal.returns-then-beside-from
unfolding next_coming
returns-then-beside-from c =
    simp (le-ltb (c.args.at.index + 1) c.args.block (omega arith), lt-ltb (c.args.at.channel + 1) c.args.channels (omega arith)) (rw c.from-beside.ensures)

pub returns-else-beside-from : goal.returns-else-beside-from
unfolding next_coming
returns-else-beside-from c =
    simp (le-ltb (c.args.at.index + 1) c.args.block (omega arith), le-ltb (c.args.at.channel + 1) c.args.channels (omega arith))
