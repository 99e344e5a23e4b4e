-- By the two tests.
use Rattle.turns.proofs.Laws.{stops-decided, stops_told, stops-not}
use mathlib.Core.Path.{refl}
use Rattle.turns.proofs.stops_behind.Goals as goal

pub returns-then-is_decided : goal.returns-then-is_decided
returns-then-is_decided c = stops-decided c.args.stage c.args.y c.is_decided.ensures c.if-is_decided.true

pub returns-then-is_head : goal.returns-then-is_head
returns-then-is_head c = stops_told c.args.stage c.args.y c.is_decided.ensures c.if-is_decided.false c.is_head.ensures c.if-is_head.true refl

pub returns-else-is_head : goal.returns-else-is_head
returns-else-is_head c = stops-not c.args.stage c.args.y c.is_decided.ensures c.if-is_decided.false c.is_head.ensures c.if-is_head.false
