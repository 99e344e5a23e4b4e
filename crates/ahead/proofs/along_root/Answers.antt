-- The stretch is the one at the front of the octets; what it counts, its octets count.
use Rattle.ahead.proofs.Laws.{goes_none}
use Rattle.ahead.proofs.Stretches.{root_goes}
use native.Mathlib.Omega.{arith}
use Rattle.ahead.proofs.Asks.{stretch-inside}
use Rattle.ahead.proofs.along_root.Goals as goal

pub returns-then-k-eq0 : goal.returns-then-k-eq0
returns-then-k-eq0 c = λ t. goes_none _ _ _ t c.none.ensures

pub returns : goal.returns
returns c =
    λ t. root_goes _ c.args.h c.args.around t c.requires.within_value c.requires.u_bound c.default-base.ensures c.along-ahead.ensures c.if-k-eq0.false c.part.ensures c.over-passed.ensures c.with_root.ensures

pub overflow_add-cursor : goal.overflow_add-cursor
overflow_add-cursor c = omega (arith, stretch-inside _ _ _ _ c.along-ahead.ensures, c.requires.u_bound)
