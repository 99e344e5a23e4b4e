-- `strides::blocks` meets its contract. The loop's invariant: the samples that are left give the buffer that is wanted.
use Prim.Native.Nat.{◌-◌}
use Rattle.strides.proofs.Walks.{Blocking}
use Rattle.strides.proofs.blocks.Given as goal

abbrev pub invariant-loop-p : goal.invariant-loop-p
invariant-loop-p l = Blocking l.little l.w l.s l.b l.g l.from l.first l.n l.initial.out l.at l.out l.start l.r l.p

abbrev pub decreases-loop-p : goal.decreases-loop-p
decreases-loop-p l = l.n - l.p
