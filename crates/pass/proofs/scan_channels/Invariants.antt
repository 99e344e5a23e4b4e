-- Each turn is a law of the pass over the records: the items up to the cursor behind the item lead to what stands then.
use Prim.Native.Nat.{◌-◌}
use lib.ListN.{length}
use Rattle.dated.specs.Dated.{settled_in}
use Rattle.layout.proofs.Laws.{Summing}
use Rattle.pass.proofs.Records.{Passing}
use Rattle.pass.proofs.scan_channels.Given as goal

abbrev pub invariant-loop-i : goal.invariant-loop-i
invariant-loop-i l = Summing l.asked.channel (settled_in l.root l.dates l.table) l.n l.i l.l

abbrev pub decreases-loop-i : goal.decreases-loop-i
decreases-loop-i l = l.n - l.i

abbrev pub invariant-loop-item : goal.invariant-loop-item
invariant-loop-item l = Passing l.s l.asked l.table l.dates l.c l.st l.met

abbrev pub decreases-loop-item : goal.decreases-loop-item
decreases-loop-item l = length l.s - l.c.at
