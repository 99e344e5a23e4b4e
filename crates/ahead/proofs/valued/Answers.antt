-- The item is the one at the front of the octets, with its value all there.
use native.Mathlib.Omega.{arith}
use Rattle.ahead.proofs.Laws.{goes_none, primitive_inside, valued-item}
use Rattle.ahead.proofs.valued.Goals as goal

pub returns-then-tag-eq30 : goal.returns-then-tag-eq30
returns-then-tag-eq30 c = goes_none _ _ _ _ c.none.ensures

pub overflow_sub-u : goal.overflow_sub-u
overflow_sub-u c = omega (arith, primitive_inside c.requires)

pub returns-then-u-start : goal.returns-then-u-start
returns-then-u-start c = goes_none _ _ _ _ c.none-then-u-start.ensures

pub overflow_add-c : goal.overflow_add-c
overflow_add-c c =
    omega (arith, primitive_inside c.requires, c.requires.near)

pub overflow_add-c-2 : goal.overflow_add-c-2
overflow_add-c-2 c =
    omega (arith, primitive_inside c.requires, c.requires.near, c.if-u-start.false)

pub overflow_add-start : goal.overflow_add-start
overflow_add-start c =
    omega (arith, primitive_inside c.requires, c.requires.near, c.if-u-start.false)

pub carried-requires : goal.carried-requires
carried-requires c =
    valued-item _ _ _ _ _ _ _ c.requires c.if-tag-eq30.false (omega (arith, primitive_inside c.requires, c.if-u-start.false))
    c.stands_in-within.ensures c.item_here.ensures c.item_effect-effect.ensures c.within_after.ensures
