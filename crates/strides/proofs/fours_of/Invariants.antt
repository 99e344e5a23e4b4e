-- A turn is four turns of `run_of`, which stores what is left.
use Prim.Native.Nat.{◌+◌, ◌*◌, ◌-◌}
use Rattle.strides.proofs.Walks.{Running}
use Rattle.strides.proofs.fours_of.Given as goal

abbrev pub invariant-loop-k : goal.invariant-loop-k
invariant-loop-k g l = Running l.little g.row.W l.s l.step l.from l.n l.initial.out l.at l.out l.q (l.at + l.k * 4) (l.n - l.k * 4)
