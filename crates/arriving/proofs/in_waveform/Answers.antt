-- By the two tests.
use Rattle.arriving.proofs.Laws.{surplus_takes, part_takes, whole_takes}
use Rattle.std.proofs.Common.{◌<◌, length, arith, rules}
use Rattle.link.specs.Link.{kept_limit}
use Rattle.arriving.proofs.in_waveform.Goals as goal

pub returns-then-x-at : goal.returns-then-x-at
returns-then-x-at c =
    let long_enough : kept_limit < length c.args.p =
    search rules in
    surplus_takes c.args.x c.args.t.now c.args.p c.args.b c.args.left c.args.at c.at_most_kept-n.ensures (long_enough) c.less-rest.ensures c.at_sample.ensures (omega arith)

pub returns-then-n-width : goal.returns-then-n-width
returns-then-n-width c =
    let long_enough : kept_limit < length c.args.p =
    search rules in
    part_takes c.args.x c.args.t.now c.args.p c.args.b c.args.left c.args.at c.at_most_kept-n.ensures (long_enough) c.less-rest.ensures (omega arith) c.held-c.ensures c.at_sample-then-n-width.ensures (omega (arith, c.width.ensures))

pub next_spot-requires : goal.next_spot-requires
next_spot-requires c = omega arith

pub returns : goal.returns
returns c =
    let long_enough : kept_limit < length c.args.p =
    search rules in
    whole_takes c.args.x c.args.t.now c.args.p c.args.b c.args.left c.args.at c.at_most_kept-n.ensures (long_enough) c.less-rest.ensures (omega arith) c.held-c.ensures c.at_sample-2.ensures (omega (arith, c.width.ensures)) c.next_spot.ensures
