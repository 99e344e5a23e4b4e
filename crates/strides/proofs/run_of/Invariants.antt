-- The samples that are left give the buffer that is wanted.
use Prim.Native.Nat.{◌+◌, ◌-◌}
use Rattle.strides.proofs.Walks.{Running}
use Rattle.strides.proofs.run_of.Given as goal

abbrev pub invariant-loop-k : goal.invariant-loop-k
invariant-loop-k g l = Running l.little g.row.W l.s l.step l.from l.n l.initial.out l.at l.out l.q (l.at + l.k) (l.n - l.k)
