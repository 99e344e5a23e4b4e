-- By how much of the block is there in the sequence that is cut off.
use mathlib.Core.Path.{◌≡◌}
use Prim.Native.Nat.{◌-◌, ◌/◌, ◌%◌}
use native.Mathlib.Omega.{arith}
use Rattle.spread.specs.Spread.{width_spread}
use Rattle.spread.proofs.Counting.{counted-all, counted-cut}
use Rattle.spread.proofs.Spread.cut.Goals as goal

pub returns-then-sequences-whole : goal.returns-then-sequences-whole
returns-then-sequences-whole c =
    rw (c.from-sequences.ensures, c.from-block.ensures) (counted-all c.args.self c.times-whole.result c.times-whole.ensures (omega arith))

pub returns : goal.returns
returns c =
    let x = c.args.self in
    let some : c.times-some.result ≡ (x.long % x.octets - x.below) / width_spread x =
    rw (← c.rest.ensures, ← c.saturating_sub-left.ensures, ← c.width.ensures) c.times-some.ensures in
    rw (c.min.ensures, c.from-block.ensures) (counted-cut x c.times-whole.result c.times-whole.ensures (omega arith) c.times-some.result some)
