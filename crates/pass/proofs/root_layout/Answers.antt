-- Channel by channel, each of them holding the root settings.
use native.Mathlib.Omega.{arith}
use lib.ListN.{length-replicate}
use Rattle.settings.specs.Settings.{channel_limit}
use Rattle.layout.proofs.Laws.{summing_none, summed_up}
use Rattle.verdict.proofs.Bounds.{channels-between}
use Rattle.pass.proofs.Bare.{bare_more}
use Rattle.pass.proofs.root_layout.Goals as goal

pub loop-i-init : goal.loop-i-init
loop-i-init c = summing_none _ (length-replicate channel_limit c.args.st.root) (rw c.channels_of-n.ensures (channels-between _ c.requires).1) c.none-l.ensures

pub overflow_add-i : goal.overflow_add-i
overflow_add-i c = omega (arith, c.loop-i.invariant.few)

pub loop-i-smaller : goal.loop-i-smaller
loop-i-smaller c = omega arith

pub loop-i-preserved : goal.loop-i-preserved
loop-i-preserved c = bare_more c.loop-i.invariant _ c.loop-i-test.true c.more-l.ensures

pub returns : goal.returns
returns c = summed_up c.loop-i.invariant _ c.channels_of-n.ensures c.loop-i-test.false
