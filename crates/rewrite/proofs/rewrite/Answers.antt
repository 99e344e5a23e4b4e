-- `rewrite::rewrite` meets its contract: what was read is the whole file where it is no longer than the limit, and else the file is longer.
use Rattle.std.proofs.Common.{arith, length-take-le, ◌∙◌}
use Rattle.rewrite.specs.Rewritten.{rewritten, complaint}
use Rattle.rewrite.proofs.Laws.{nothing, too_long, whole, no_word, appended, kept, octets_written, refusal_written}
use Rattle.rewrite.proofs.rewrite.Goals as goal

pub returns-then-n-gt-LIMIT-clause-written : goal.returns-then-n-gt-LIMIT-clause-written
returns-then-n-gt-LIMIT-clause-written g c =
    let read = c.in_ok-n.ensures in
    kept _ _ rewritten _ (nothing _ _ _ read.octets (omega (arith, c.if-n-gt-LIMIT.true, length-take-le c.in_ok-n.n c.read_full.new.buf read.within)))

pub returns-then-n-gt-LIMIT-clause-complained : goal.returns-then-n-gt-LIMIT-clause-complained
returns-then-n-gt-LIMIT-clause-complained g c =
    let read = c.in_ok-n.ensures in
    appended _ _ _ _ complaint _ (too_long _ _ _ read.octets (omega (arith, c.if-n-gt-LIMIT.true, length-take-le c.in_ok-n.n c.read_full.new.buf read.within))) c.write_all.ensures.bytes

pub returns-in-Ok-clause-written : goal.returns-in-Ok-clause-written
returns-in-Ok-clause-written g c =
    let read = c.in_ok-n.ensures in
    let few = c.if-n-gt-LIMIT.false in
    appended _ _ _ _ rewritten _ (whole _ _ _ read.octets (read.end (omega (arith, c.read_full.auto.buf))) (omega (arith, length-take-le c.in_ok-n.n c.read_full.new.buf read.within)))
    (rw (c.part.ensures ∙ octets_written (omega arith) c.in-Ok.ensures) at c.write_all-in-Ok.ensures.bytes)

pub returns-in-Ok-clause-complained : goal.returns-in-Ok-clause-complained
returns-in-Ok-clause-complained g c =
    let read = c.in_ok-n.ensures in
    let few = c.if-n-gt-LIMIT.false in
    kept _ _ complaint _ (no_word _ _ _ read.octets (read.end (omega (arith, c.read_full.auto.buf))) (omega (arith, length-take-le c.in_ok-n.n c.read_full.new.buf read.within)))

pub returns-in-Err-clause-written : goal.returns-in-Err-clause-written
returns-in-Err-clause-written g c =
    let read = c.in_ok-n.ensures in
    let few = c.if-n-gt-LIMIT.false in
    appended _ _ _ _ rewritten _ (whole _ _ _ read.octets (read.end (omega (arith, c.read_full.auto.buf))) (omega (arith, length-take-le c.in_ok-n.n c.read_full.new.buf read.within)))
    (rw (refusal_written c.in-Err.x (omega arith) c.in-Err.ensures) at c.say_refused.ensures)

pub returns-in-Err-clause-complained : goal.returns-in-Err-clause-complained
returns-in-Err-clause-complained g c =
    let read = c.in_ok-n.ensures in
    let few = c.if-n-gt-LIMIT.false in
    kept _ _ complaint _ (no_word _ _ _ read.octets (read.end (omega (arith, c.read_full.auto.buf))) (omega (arith, length-take-le c.in_ok-n.n c.read_full.new.buf read.within)))
