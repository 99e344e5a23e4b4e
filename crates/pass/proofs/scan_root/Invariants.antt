-- Each turn is a law of the pass, where no record is laid down: the items up to the cursor behind the item lead to what stands then.
use Prim.Native.Nat.{◌-◌}
use lib.ListN.{length}
use Rattle.pass.proofs.Bare.{Bare}
use Rattle.pass.proofs.scan_root.Given as goal

abbrev pub invariant-loop-ahead : goal.invariant-loop-ahead
invariant-loop-ahead l = Bare l.s l.asked l.c l.st l.met

abbrev pub decreases-loop-ahead : goal.decreases-loop-ahead
decreases-loop-ahead l = length l.s - l.c.at
