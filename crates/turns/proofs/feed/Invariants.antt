-- The loop's invariant: how far the call has come.
use Rattle.turns.proofs.Laws.{Feeding}
use Prim.Native.Nat.{◌-◌}
use lib.ListN.{length}
use Rattle.turns.proofs.feed.Given as goal

abbrev pub invariant-loop-link : goal.invariant-loop-link
invariant-loop-link l = Feeding l.initial.link l.initial.octets l.initial.t l.s l.initial.out l.link l.octets l.taken l.given l.t l.out

abbrev pub decreases-loop-link : goal.decreases-loop-link
decreases-loop-link l = length l.s - l.taken
