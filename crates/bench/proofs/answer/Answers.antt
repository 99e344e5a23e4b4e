-- `bench::answer` meets its contract: what was read is the whole file where it is no longer than the limit, and else the file is longer.
use Rattle.std.proofs.Common.{arith, length-take-le, ap, ◌∙◌}
use Rattle.line.specs.Line.{line_of}
use Rattle.line.proofs.Laws.{line_taken}
use Rattle.bench.proofs.Laws.{said_long, said_short}
use Rattle.bench.proofs.answer.Goals as goal

pub returns-then-n-gt-LIMIT : goal.returns-then-n-gt-LIMIT
returns-then-n-gt-LIMIT g c =
    let read = c.in_ok-n.ensures in
    said_long _ _ _ _ _ _ read.octets (omega (arith, c.if-n-gt-LIMIT.true, read.within, length-take-le c.in_ok-n.n c.read_full.new.buf read.within)) c.write_all.ensures.bytes

pub returns : goal.returns
returns g c =
    let read = c.in_ok-n.ensures in
    let few = c.if-n-gt-LIMIT.false in
    said_short _ _ _ _ _ _ _ read.octets (read.end (omega (arith, c.read_full.auto.buf))) (omega (arith, length-take-le c.in_ok-n.n c.read_full.new.buf read.within))
    (c.part.ensures ∙ line_taken c.put_line-k.ensures ∙ ap line_of c.check.ensures) c.write_all-2.ensures.bytes
