-- The samples that are left give the buffer that is wanted.
use Prim.Native.Nat.{◌+◌, ◌*◌, ◌-◌}
use Rattle.runs.proofs.Samples.{Left}
use Rattle.runs.proofs.turn_blocks.Given as goal

abbrev pub invariant-loop-k : goal.invariant-loop-k
invariant-loop-k l = Left l.src l.from l.n l.w l.initial.dst l.at l.dst (l.from + l.k * 16) (l.at + l.k * 16) (l.n - l.k * l.each)
