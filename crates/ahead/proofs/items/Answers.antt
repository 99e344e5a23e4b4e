-- The octets taken so far lead where the walk stands; each turn goes on behind them.
use mathlib.Core.Path.{refl, ◌∙◌}
use native.Mathlib.Omega.{arith}
use Rattle.heads.proofs.Heads.{rest-is}
use Rattle.ahead.proofs.Laws.{goes_none, goes-both, goes_near}
use Rattle.ahead.proofs.items.Goals as goal

pub returns-then-first-gt-OCTETS : goal.returns-then-first-gt-OCTETS
returns-then-first-gt-OCTETS c = goes_none _ _ _ _ c.none.ensures

pub returns-then-first-u : goal.returns-then-first-u
returns-then-first-u c = goes_none _ _ _ _ c.none-then-first-u.ensures

pub loop-taken-init : goal.loop-taken-init
loop-taken-init c = goes_none _ _ _ _ refl

pub slice_bounds-turn-count : goal.slice_bounds-turn-count
slice_bounds-turn-count c = omega (arith, c.loop-taken.invariant.inside)

pub slice_bounds-turn-start : goal.slice_bounds-turn-start
slice_bounds-turn-start c = omega (arith, c.loop-taken.invariant.inside)

pub slice_bounds-turn-end : goal.slice_bounds-turn-end
slice_bounds-turn-end c = omega (arith, c.loop-taken.invariant.inside)

pub turn-next-requires : goal.turn-next-requires
turn-next-requires c =
    goes_near c.loop-taken.invariant (rest-is c.loop-taken.taken c.args.u.now) (omega (arith, c.if-first-gt-OCTETS.false, c.if-first-u.false))

pub loop-taken-preserved : goal.loop-taken-preserved
loop-taken-preserved c =
    goes-both c.loop-taken.invariant (rest-is c.loop-taken.taken c.args.u.now) c.turn-next.ensures

pub shape_of-t-after-loop-taken : goal.shape_of-t-after-loop-taken
shape_of-t-after-loop-taken c = c.loop-taken.invariant.long

pub returns-after-loop-taken : goal.returns-after-loop-taken
returns-after-loop-taken c = c.loop-taken.invariant

pub shape_of-t-then-next-eq0 : goal.shape_of-t-then-next-eq0
shape_of-t-then-next-eq0 c =
    c.turn-next.ensures.long ∙ c.loop-taken.invariant.long

pub returns-then-next-eq0 : goal.returns-then-next-eq0
returns-then-next-eq0 c =
    goes-both c.loop-taken.invariant (rest-is c.loop-taken.taken c.args.u.now) c.turn-next.ensures
