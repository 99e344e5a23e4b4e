-- The groups still to come, stored from here on, give the wanted buffer.
use native.Mathlib.Omega.{arith}
use Rattle.frames.proofs.Coming.{grouped_first, grouped_next, grouped_done, nth, taken-long}
use Rattle.frames.proofs.put_groups.Goals as goal

pub loop-i-init : goal.loop-i-init
loop-i-init c = grouped_first _ _ _ c.requires

pub overflow_cast-i : goal.overflow_cast-i
overflow_cast-i c =
    omega (arith, c.args.channels.few.most, c.loop-i-test.true)

pub loop-i-preserved : goal.loop-i-preserved
loop-i-preserved c =
    let a = c.args in
    let inv = c.loop-i.invariant in
    grouped_next inv (nth a.channels.words.now a.channels.few c.loop-i-test.true c.settings.ensures) c.put_group-next.ensures

pub shape_of-out : goal.shape_of-out
shape_of-out c = c.loop-i.invariant.coming.long

pub returns : goal.returns
returns c =
    let a = c.args in
    let inv = c.loop-i.invariant in
    grouped_done inv (omega (arith, taken-long a.channels.words.now a.channels.few, c.loop-i-test.false))
