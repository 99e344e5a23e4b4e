-- By the two tests.
use Rattle.turns.proofs.Laws.{gives_nothing, gives-full, sample_part, sample-whole, sample-row}
use native.Mathlib.Omega.{arith}
use Prim.Native.Nat.{◌<◌}
use lib.ListN.{length}
use Rattle.link.specs.Link.{kept_limit}
use borrow.Author.Rules.{rules}
use Rattle.turns.proofs.sample_given.Goals as goal

pub returns-then-n-width : goal.returns-then-n-width
returns-then-n-width c =
    let long_enough : kept_limit < length c.args.p =
    search rules in
    gives_nothing (sample_part c.args.x c.args.p c.args.t.now c.args.b c.args.at c.smaller-n.ensures (long_enough) c.sampling_at-c.ensures c.width.ensures (omega arith))

pub returns-then-out-lt-WORDS : goal.returns-then-out-lt-WORDS
returns-then-out-lt-WORDS c =
    let long_enough : kept_limit < length c.args.p =
    search rules in
    gives-full (sample-whole c.args.x c.args.p c.args.t.now c.args.b c.args.at c.smaller-n.ensures (long_enough) c.sampling_at-c.ensures c.width.ensures (omega arith)) (omega arith)

pub returns : goal.returns
returns c =
    let long_enough : kept_limit < length c.args.p =
    search rules in
    sample-row c.args.x c.args.p c.args.t.now c.args.b c.args.at c.smaller-n.ensures (long_enough) c.sampling_at-c.ensures c.width.ensures (omega arith) (omega arith) c.part.ensures c.put_sample.ensures
