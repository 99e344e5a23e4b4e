-- The samples that are left give the buffer that is wanted.
use Prim.Native.Nat.{◌+◌, ◌*◌, ◌-◌}
use Rattle.runs.proofs.Samples.{Left}
use Rattle.runs.proofs.turn_each.Given as goal

abbrev pub invariant-loop-k : goal.invariant-loop-k
invariant-loop-k l = Left l.src l.from l.n l.w l.initial.dst l.at l.dst (l.from + l.k * l.w) (l.at + l.k * l.w) (l.n - l.k)
