-- A number below the block length is in the first block.
use mathlib.Core.Path.{sym}
use native.Mathlib.Nat.{div-eq_of_lt}
use Rattle.strides.proofs.block_of.Goals as goal

pub returns-then-first-b : goal.returns-then-first-b
returns-then-first-b c = sym (div-eq_of_lt c.if-first-b.true)
