-- The loop's invariant: the octets before a are read.
use Prim.Native.Nat.{◌-◌, ◌≤◌}
use Rattle.words.specs.Words.{Overlaid}
use Rattle.held.proofs.Laws.{low_in}
use Rattle.held.proofs.octets_at.Given as goal

abbrev pub invariant-loop-a : goal.invariant-loop-a
invariant-loop-a l = (l.a ≤ l.held) × Overlaid l.initial.r 0 (low_in l.w) l.a l.r

abbrev pub decreases-loop-a : goal.decreases-loop-a
decreases-loop-a l = l.held - l.a
