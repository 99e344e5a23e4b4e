-- The loop's invariant: the samples before the one at hand are laid.
use Prim.Native.Nat.{◌-◌}
use lib.ListN.{length}
use Rattle.rows.specs.Rows.{laid}
use Rattle.rows.specs.Laying.{Onward}
use Rattle.rows.proofs.lay_on.Given as goal

abbrev pub invariant-loop-bits : goal.invariant-loop-bits
invariant-loop-bits l = Onward l.t l.v l.count l.u (laid l.initial.x l.initial.i l.initial.n) l.initial.out (laid l.x l.i l.n) l.out

abbrev pub decreases-loop-bits : goal.decreases-loop-bits
decreases-loop-bits l = length l.u - l.i
