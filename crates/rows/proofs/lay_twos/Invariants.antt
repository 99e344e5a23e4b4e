-- The loop's invariant: the samples before the one at hand are laid. The data type says that the width is 2.
use Prim.Native.Nat.{◌-◌}
use lib.ListN.{length}
use Rattle.rows.specs.Rows.{laid}
use Rattle.rows.specs.Laying.{Onward}
use Rattle.rows.proofs.lay_twos.Given as goal

abbrev pub invariant-loop-two : goal.invariant-loop-two
invariant-loop-two l = Onward l.t l.v l.count l.u (laid l.initial.x 0 0) l.initial.out (laid l.x l.i l.n) l.out

abbrev pub decreases-loop-two : goal.decreases-loop-two
decreases-loop-two l = length l.u - l.i
