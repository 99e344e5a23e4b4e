-- What is left of them behind the first ones.
use mathlib.Core.Path.{sym}
use Prim.Native.Nat.{◌+◌}
use native.Mathlib.Nat.{add_comm}
use native.Mathlib.Omega.{arith}
use borrow.Author.Tests.{lt-leb}
use Rattle.spread.proofs.Lying.{rest_test}
use Rattle.strides.proofs.among.Goals as goal

pub returns-then-count-first : goal.returns-then-count-first
returns-then-count-first c = let a = c.args in sym (lt-leb (a.first + a.n) a.count (omega arith))

pub returns : goal.returns
returns c = rw (add_comm c.args.first) (rest_test _ _ _ c.if-count-first.false)
