-- By the two tests.
use Rattle.arriving.proofs.Laws.{next-index, next-channel, next-sequence}
use Rattle.std.proofs.Common.{arith}
use Rattle.arriving.proofs.next_spot.Goals as goal

pub returns-then-at-block : goal.returns-then-at-block
returns-then-at-block c = next-index c.args.block c.args.channels c.args.at (omega arith)

pub returns-then-at-channels : goal.returns-then-at-channels
returns-then-at-channels c = next-channel c.args.block c.args.channels c.args.at (omega arith) (omega arith)

pub returns : goal.returns
returns c = next-sequence c.args.block c.args.channels c.args.at (omega arith) (omega arith)
