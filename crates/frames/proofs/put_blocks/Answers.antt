-- The blocks still to come of a sequence, and the sequences still to come, stored from here on, give the wanted buffer.
use borrow.Author.Rules.{rules}
use Prim.Native.Nat.{◌^◌, ◌<◌}
use native.Mathlib.Omega.{arith}
use lib.ListN.{length}
use Rattle.frames.proofs.Coming.{nth, taken-long, blocks_sum, blocks_first, blocks_next, blocks_place, blocks_done, sequences_first, sequences-fit, sequences-room, sequences-next, sequences_done}
use Rattle.frames.proofs.put_blocks.Goals as goal

pub loop-sequence-init : goal.loop-sequence-init
loop-sequence-init c = sequences_first _ _ _ _ _ c.requires.inside c.requires.sequences_in_bounds

pub loop-i-init : goal.loop-i-init
loop-i-init c =
    let inv = c.loop-sequence.invariant in
    let test = c.loop-sequence-test.true in
    blocks_first _ _ _ _ _ (sequences-fit inv test) (sequences-room inv test)

pub overflow_mul-place : goal.overflow_mul-place
overflow_mul-place c =
    let channel = nth c.args.channels.words.now c.args.channels.few c.loop-i-test.true c.settings-c.ensures in
    let short : length c.args.w.now < 2 ^ 64 = search rules in
    omega (arith, blocks_sum c.loop-i.invariant channel c.width-v.ensures, short)

pub overflow_add-place : goal.overflow_add-place
overflow_add-place c =
    let channel = nth c.args.channels.words.now c.args.channels.few c.loop-i-test.true c.settings-c.ensures in
    let short : length c.args.w.now < 2 ^ 64 = search rules in
    omega (arith, blocks_sum c.loop-i.invariant channel c.width-v.ensures, short)

pub loop-i-preserved : goal.loop-i-preserved
loop-i-preserved c =
    blocks_next c.loop-i.invariant (nth c.args.channels.words.now c.args.channels.few c.loop-i-test.true c.settings-c.ensures) c.width-v.ensures c.turn-next.ensures

pub loop-sequence-preserved : goal.loop-sequence-preserved
loop-sequence-preserved c =
    let blocks = c.loop-i.invariant in
    let all = taken-long c.args.channels.words.now c.args.channels.few in
    let end = c.loop-i-test.false in
    sequences-next c.loop-sequence.invariant _ c.loop-sequence-test.true (blocks_place blocks (omega (arith, all, end))) (blocks_done blocks (omega (arith, all, end)))

pub shape_of-out : goal.shape_of-out
shape_of-out c = c.loop-sequence.invariant.coming.long

pub returns : goal.returns
returns c = sequences_done c.loop-sequence.invariant c.loop-sequence-test.false
