-- The loop's invariant: the words before a are stored.
use mathlib.Core.List.{◌++◌}
use Prim.Native.Nat.{◌+◌, ◌-◌, ◌≤◌}
use lib.ListN.{length}
use Rattle.words.specs.Words.{Overlaid}
use Rattle.held.proofs.store.Given as goal

abbrev pub invariant-loop-a : goal.invariant-loop-a
invariant-loop-a l = (l.n ≤ length l.initial.w) × (l.n ≤ length l.x + length l.p) × (l.a ≤ l.n) × Overlaid l.initial.w 0 (l.x ++ l.p) l.a l.w

abbrev pub decreases-loop-a : goal.decreases-loop-a
decreases-loop-a l = l.n - l.a
