-- The loop's invariant, for each buffer: what is told of the samples that are left gives the buffer that is wanted.
use mathlib.Core.Path.{◌≡◌}
use Prim.Native.Nat.{◌-◌}
use lib.ListN.{length}
use Rattle.values.specs.Told.{told_of}
use Rattle.bulk.specs.Samples.{bits_seen}
use Rattle.bulk.proofs.Telling.{Pieces}
use Rattle.bulk.proofs.tell_samples.Given as goal

abbrev pub invariant-loop-done : goal.invariant-loop-done
invariant-loop-done l =
    Pieces (λ b. (told_of l.m b).kind) (bits_seen l.s l.v) l.first l.n l.initial.kinds l.kinds l.done × (Pieces (λ b. (told_of l.m b).whole) (bits_seen l.s l.v) l.first l.n l.initial.wholes l.wholes l.done × (length l.bits ≡ 256))

abbrev pub decreases-loop-done : goal.decreases-loop-done
decreases-loop-done l = l.n - l.done
