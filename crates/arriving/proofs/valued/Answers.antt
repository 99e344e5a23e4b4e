-- By what is left.
use Rattle.arriving.proofs.Laws.{valued_done, valued-on}
use Rattle.std.proofs.Common.{arith}
use Rattle.arriving.proofs.valued.Goals as goal

pub returns-then-left-eq0 : goal.returns-then-left-eq0
returns-then-left-eq0 c = valued_done c.args.tag c.args.left c.args.n c.args.p c.part.result.now (omega arith) c.part.ensures c.done_item.ensures

pub returns : goal.returns
returns c = valued-on c.args.tag c.args.left c.args.n c.args.p (λ z. omega arith) c.requires
