-- The octets taken so far lead where the walk stands; each turn goes on behind them.
use Prim.Native.Nat.{◌-◌}
use lib.ListN.{length}
use Rattle.ahead.specs.Ahead.{GoesAhead}
use Rattle.ahead.proofs.items.Given as goal

abbrev pub invariant-loop-taken : goal.invariant-loop-taken
invariant-loop-taken l = GoesAhead l.u l.initial.head l.initial.mark l.initial.t (record { head = l.head; around = l.mark; taken = l.taken }) l.t

abbrev pub decreases-loop-taken : goal.decreases-loop-taken
decreases-loop-taken l = length l.u - l.taken
