-- By whether it ends past the limit.
use Rattle.arriving.proofs.Laws.{waiting_noted, framed_long, framed_told}
use Rattle.std.proofs.Common.{sym, ◌∙◌}
use Rattle.arriving.proofs.framed.Goals as goal

pub returns-then-passes : goal.returns-then-passes
returns-then-passes c = framed_long c.args.left c.args.frame (sym c.passes.ensures ∙ c.if-passes.true) c.in_stand.ensures (waiting_noted c.args.left _ c.of.ensures c.waiting.ensures)

pub returns : goal.returns
returns c = framed_told c.args.left c.args.frame (sym c.passes.ensures ∙ c.if-passes.false) c.waved.ensures
