-- What is left behind the blocks so far leaves the same.
use native.Mathlib.Omega.{arith}
use Rattle.there.proofs.Partial.{cutting_first, cutting_past}
use Rattle.frames.proofs.Coming.{nth, taken-long}
use Rattle.frames.proofs.Parting.{block_narrow, width_some, cut_next, cut_last}
use Rattle.frames.proofs.partial_octets.Goals as goal

pub loop-i-init : goal.loop-i-init
loop-i-init c = cutting_first _ _

pub overflow_mul-block : goal.overflow_mul-block
overflow_mul-block c = omega (arith, block_narrow c.settings-c.result c.width-v.ensures)

pub nonzero_rem-result : goal.nonzero_rem-result
nonzero_rem-result c = width_some c.settings-c.result.block _ _ c.if-left-block.true

pub returns-then-left-block : goal.returns-then-left-block
returns-then-left-block c =
    let inv = c.loop-i.invariant in
    cut_last inv (nth c.args.channels.words.now c.args.channels.few c.loop-i-test.true c.settings-c.ensures) c.width-v.ensures c.if-left-block.true

pub loop-i-preserved : goal.loop-i-preserved
loop-i-preserved c =
    let inv = c.loop-i.invariant in
    cut_next inv (nth c.args.channels.words.now c.args.channels.few c.loop-i-test.true c.settings-c.ensures) c.width-v.ensures c.if-left-block.false

pub returns : goal.returns
returns c =
    let inv = c.loop-i.invariant in
    cutting_past _ _ _ _ inv (omega (arith, taken-long c.args.channels.words.now c.args.channels.few, c.loop-i-test.false))
