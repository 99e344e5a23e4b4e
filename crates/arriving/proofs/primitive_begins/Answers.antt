-- By the tag.
use Rattle.arriving.proofs.Laws.{begins_frame, begins_value}
use Rattle.std.proofs.Common.{arith}
use Rattle.arriving.proofs.primitive_begins.Goals as goal

pub returns-then-tag-eq30 : goal.returns-then-tag-eq30
returns-then-tag-eq30 c = begins_frame c.args.tag c.args.len (omega arith) c.effected.ensures

pub returns : goal.returns
returns c = begins_value c.args.tag c.args.len (λ z. omega arith) c.valued.ensures
