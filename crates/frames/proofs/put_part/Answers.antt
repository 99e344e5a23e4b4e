-- The samples still to come of the sequence, stored from here on, give the wanted buffer.
use Prim.Native.Nat.{◌^◌, ◌<◌}
use native.Mathlib.Omega.{arith}
use lib.ListN.{length}
use Rattle.stores.proofs.Stores.{put_long}
use Rattle.frames.proofs.Coming.{nth, taken-long}
use Rattle.frames.proofs.Parting.{block_narrow, width_some, parts_first, parts_next, parts_last, parts_done}
use borrow.Author.Rules.{rules}
use Rattle.frames.proofs.put_part.Goals as goal

pub loop-i-init : goal.loop-i-init
loop-i-init c =
    parts_first _ _ _ _ _ _ c.requires.inside c.requires.rest_in_bounds

pub overflow_mul-block : goal.overflow_mul-block
overflow_mul-block c = omega (arith, block_narrow c.settings-c.result c.width-v.ensures)

pub nonzero_div-left : goal.nonzero_div-left
nonzero_div-left c = width_some c.settings-c.result.block _ _ c.if-left-block.true

pub returns-then-left-block : goal.returns-then-left-block
returns-then-left-block c =
    let inv = c.loop-i.invariant in
    parts_last inv (nth c.args.channels.words.now c.args.channels.few c.loop-i-test.true c.settings-c.ensures) c.width-v.ensures c.if-left-block.true c.turn.ensures

pub shape_of-out-then-left-block : goal.shape_of-out-then-left-block
shape_of-out-then-left-block c = put_long (returns-then-left-block c)

pub overflow_add-place : goal.overflow_add-place
overflow_add-place c =
    let short : length c.args.w.now < 2 ^ 64 =
    search rules in
    let few = short in
    omega (arith, c.loop-i.invariant.fits, c.if-left-block.false)

pub loop-i-preserved : goal.loop-i-preserved
loop-i-preserved c =
    let inv = c.loop-i.invariant in
    parts_next inv (nth c.args.channels.words.now c.args.channels.few c.loop-i-test.true c.settings-c.ensures) c.width-v.ensures c.if-left-block.false c.turn-next.ensures

pub shape_of-out : goal.shape_of-out
shape_of-out c = c.loop-i.invariant.coming.long

pub returns : goal.returns
returns c =
    let inv = c.loop-i.invariant in
    parts_done inv (omega (arith, taken-long c.args.channels.words.now c.args.channels.few, c.loop-i-test.false))
