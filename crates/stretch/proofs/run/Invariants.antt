-- What ends the stretch, and what it goes on with.
use Prim.Native.Nat.{◌-◌}
use lib.ListN.{length}
use Rattle.stretch.proofs.Runs.{RunningStretch}
use Rattle.stretch.proofs.run.Given as goal

abbrev pub invariant-loop-at : goal.invariant-loop-at
invariant-loop-at l = RunningStretch l.little l.base l.initial.settings l.u l.settings l.at

abbrev pub decreases-loop-at : goal.decreases-loop-at
decreases-loop-at l = length l.u - l.at
