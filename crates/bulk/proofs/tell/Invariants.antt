-- The loop's invariant, for each buffer: what is told of the bits that are left gives the buffer that is wanted.
use Prim.Native.Nat.{◌-◌}
use Rattle.values.specs.Told.{told_of}
use Rattle.bulk.proofs.Telling.{Mapping}
use Rattle.bulk.proofs.tell.Given as goal

abbrev pub invariant-loop-i : goal.invariant-loop-i
invariant-loop-i l = Mapping (λ b. (told_of l.m b).kind) l.bits l.n l.initial.kinds l.at l.kinds l.i × Mapping (λ b. (told_of l.m b).whole) l.bits l.n l.initial.wholes l.at l.wholes l.i

abbrev pub decreases-loop-i : goal.decreases-loop-i
decreases-loop-i l = l.n - l.i
