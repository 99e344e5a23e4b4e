-- Channel by channel, until the one whose block is cut off.
use Prim.Native.Nat.{◌-◌, ◌%◌}
use lib.ListN.{take}
use Rattle.dated.specs.Dated.{settled_in}
use Rattle.there.proofs.Partial.{Cutting}
use Rattle.pass.proofs.channels_there.Given as goal

abbrev pub invariant-loop-i : goal.invariant-loop-i
invariant-loop-i l = Cutting (take l.n (settled_in l.root l.dates l.table)) (l.len % l.octets) l.i l.left

abbrev pub decreases-loop-i : goal.decreases-loop-i
decreases-loop-i l = l.n - l.i
