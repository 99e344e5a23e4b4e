-- By the octets that are left at the cursor and by the head of the item there; the item lies in the file, so that no place overflows.
use Rattle.std.specs.Prelude.{Ok}
use mathlib.Core.Path.{ap, ◌∙◌}
use native.Mathlib.Omega.{arith}
use Rattle.items.specs.Walk.{item_of}
use Rattle.heads.proofs.Heads.{head_found}
use Rattle.items.proofs.Walks.{next-none, next-head, extent_found}
use Rattle.items.proofs.next_item.Goals as goal

pub returns-then-u-eq0 : goal.returns-then-u-eq0
returns-then-u-eq0 c = c.end_of.ensures ∙ next-none _ _ _ _ c.stands_in-within.ensures c.rest-u.ensures c.if-u-eq0.true

pub primitive_item-requires : goal.primitive_item-requires
primitive_item-requires c =
    omega (arith, head_found c.is_inside.result c.rest-u.result.now c.item_head.ensures (c.in-Ok-Primitive.is ∙ ap Ok c.in-Ok-Primitive.field-0-is), extent_found c.args.s.now c.args.c.at c.stands_in-within.result c.rest-u.result.now c.rest-u.ensures c.if-u-eq0.false)

pub overflow_add-behind : goal.overflow_add-behind
overflow_add-behind c =
    omega (arith, head_found c.is_inside.result c.rest-u.result.now c.item_head.ensures (c.in-Ok-Definite.is ∙ ap Ok c.in-Ok-Definite.field-0-is), extent_found c.args.s.now c.args.c.at c.stands_in-within.result c.rest-u.result.now c.rest-u.ensures c.if-u-eq0.false)

pub overflow_add-behind-in-Ok-Definite : goal.overflow_add-behind-in-Ok-Definite
overflow_add-behind-in-Ok-Definite c =
    omega (arith, head_found c.is_inside.result c.rest-u.result.now c.item_head.ensures (c.in-Ok-Definite.is ∙ ap Ok c.in-Ok-Definite.field-0-is), extent_found c.args.s.now c.args.c.at c.stands_in-within.result c.rest-u.result.now c.rest-u.ensures c.if-u-eq0.false)

pub overflow_add-behind-in-Ok-Definite-2 : goal.overflow_add-behind-in-Ok-Definite-2
overflow_add-behind-in-Ok-Definite-2 c =
    omega (arith, head_found c.is_inside.result c.rest-u.result.now c.item_head.ensures (c.in-Ok-Definite.is ∙ ap Ok c.in-Ok-Definite.field-0-is), extent_found c.args.s.now c.args.c.at c.stands_in-within.result c.rest-u.result.now c.rest-u.ensures c.if-u-eq0.false)

pub overflow_add-behind-in-Ok-Open : goal.overflow_add-behind-in-Ok-Open
overflow_add-behind-in-Ok-Open c =
    omega (arith, head_found c.is_inside.result c.rest-u.result.now c.item_head.ensures (c.in-Ok-Open.is ∙ ap Ok c.in-Ok-Open.field-0-is), extent_found c.args.s.now c.args.c.at c.stands_in-within.result c.rest-u.result.now c.rest-u.ensures c.if-u-eq0.false)

pub returns-in-Ok-Primitive : goal.returns-in-Ok-Primitive
unfolding item_of
returns-in-Ok-Primitive c = c.primitive_item.ensures ∙ next-head _ _ _ _ c.stands_in-within.ensures c.rest-u.ensures c.if-u-eq0.false _ _ _ c.is_inside.ensures c.item_head.ensures (c.in-Ok-Primitive.is ∙ ap Ok c.in-Ok-Primitive.field-0-is)

pub returns-in-Ok-Definite : goal.returns-in-Ok-Definite
unfolding item_of
returns-in-Ok-Definite c = next-head _ _ _ _ c.stands_in-within.ensures c.rest-u.ensures c.if-u-eq0.false _ _ _ c.is_inside.ensures c.item_head.ensures (c.in-Ok-Definite.is ∙ ap Ok c.in-Ok-Definite.field-0-is)

pub returns-in-Ok-Open : goal.returns-in-Ok-Open
unfolding item_of
returns-in-Ok-Open c = next-head _ _ _ _ c.stands_in-within.ensures c.rest-u.ensures c.if-u-eq0.false _ _ _ c.is_inside.ensures c.item_head.ensures (c.in-Ok-Open.is ∙ ap Ok c.in-Ok-Open.field-0-is)

pub returns-in-Err : goal.returns-in-Err
unfolding item_of
returns-in-Err c = next-head _ _ _ _ c.stands_in-within.ensures c.rest-u.ensures c.if-u-eq0.false _ _ _ c.is_inside.ensures c.item_head.ensures c.in-Err.is
