-- The loop's invariant: the samples of the channels that are left give the buffer that is wanted.
use native.Mathlib.Omega.{arith}
use Rattle.strides.proofs.Channels.{laying_begins, laying_can, laying_turns, laying-ends}
use Rattle.strides.proofs.lay_all.Goals as goal

pub loop-channel-init : goal.loop-channel-init
loop-channel-init c = laying_begins _ _ _ _ _ c.requires

pub overflow_sub-out : goal.overflow_sub-out
overflow_sub-out c = c.loop-channel.invariant.within

pub lay_whole-requires : goal.lay_whole-requires
lay_whole-requires c =
    let n = rw c.spread_at-x.ensures at c.readable-n.ensures in
    rw c.spread_at-x.ensures (laying_can _ _ _ _ _ c.loop-channel.invariant c.loop-channel-test.true n)

pub overflow_add-at : goal.overflow_add-at
overflow_add-at c =
    let n = rw c.spread_at-x.ensures at c.readable-n.ensures in
    omega (arith, (laying_can _ _ _ _ _ c.loop-channel.invariant c.loop-channel-test.true n).fits)

pub loop-channel-preserved : goal.loop-channel-preserved
loop-channel-preserved c =
    let n = rw c.spread_at-x.ensures at c.readable-n.ensures in
    laying_turns _ _ _ _ _ c.loop-channel.invariant c.loop-channel-test.true n (rw c.spread_at-x.ensures at c.lay_whole.ensures)

pub shape_of-out : goal.shape_of-out
shape_of-out c = c.loop-channel.invariant.long

pub returns : goal.returns
returns c =
    let told = laying-ends _ _ _ _ _ c.loop-channel.invariant (omega arith) in
    record {
      value = told.0;
      out_after = told.1;
    }
