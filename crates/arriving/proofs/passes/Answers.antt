-- By the two tests.
use Rattle.arriving.proofs.Laws.{passes_first, passes_then}
use Rattle.std.proofs.Common.{arith}
use Rattle.arriving.proofs.passes.Goals as goal

pub returns-then-limit-count : goal.returns-then-limit-count
returns-then-limit-count c = passes_first c.args.count c.args.left (omega arith)

pub returns : goal.returns
returns c = passes_then c.args.count c.args.left (omega arith)
