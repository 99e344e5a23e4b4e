-- `octets::part` meets its contract: past the end nothing is left, a part that reaches the end is all that is left, and any other is
-- as long as asked for. Assumes nothing.
use Rattle.octets.proofs.Laws.{part_past, part_rest, part_whole}
use Rattle.octets.proofs.part.Goals as goal

pub returns-then-l-at : goal.returns-then-l-at
returns-then-l-at c = part_past c.args.s.now c.args.at c.args.n c.if-l-at.true

pub returns-then-l-at-2 : goal.returns-then-l-at-2
returns-then-l-at-2 c = part_rest c.args.s.now c.args.at _ c.if-l-at-2.true

pub returns : goal.returns
returns c = part_whole c.args.s.now c.args.at c.args.n
