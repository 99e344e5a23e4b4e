-- The item goes by its head.
use Rattle.std.specs.Prelude.{Ok, Some}
use mathlib.Core.Path.{ap, ◌∙◌}
use native.Mathlib.Omega.{arith}
use Rattle.ahead.proofs.Laws.{goes_none, head-is, definite_inside, open_inside, definite_here, open_here}
use Rattle.ahead.proofs.item_in.Goals as goal

pub valued-requires : goal.valued-requires
valued-requires c =
    let i = c.in-Ok-Some-Primitive in
    head-is {h = c.args.h} c.requires.u_bound c.requires.fits c.stands_in.ensures c.is_inside-inside.ensures c.item_form.ensures (i.is ∙ ap Ok (i.field-0-is ∙ ap Some i.field-0-0-is))

pub returns-then-len-gt-OCTETS : goal.returns-then-len-gt-OCTETS
returns-then-len-gt-OCTETS c = goes_none _ _ _ _ c.none.ensures

pub overflow_add-from : goal.overflow_add-from
overflow_add-from c =
    let i = c.in-Ok-Some-Definite in
    omega (arith, definite_inside (head-is {h = c.args.h} c.requires.u_bound c.requires.fits c.stands_in.ensures c.is_inside-inside.ensures c.item_form.ensures (i.is ∙ ap Ok (i.field-0-is ∙ ap Some i.field-0-0-is))), c.requires.u_bound)

pub overflow_add-end : goal.overflow_add-end
overflow_add-end c =
    let i = c.in-Ok-Some-Definite in
    omega (arith, definite_inside (head-is {h = c.args.h} c.requires.u_bound c.requires.fits c.stands_in.ensures c.is_inside-inside.ensures c.item_form.ensures (i.is ∙ ap Ok (i.field-0-is ∙ ap Some i.field-0-0-is))), c.requires.u_bound, c.if-len-gt-OCTETS.false)

pub carried-requires : goal.carried-requires
carried-requires c =
    let i = c.in-Ok-Some-Definite in
    definite_here _ _ _ _ _ _ _ (head-is {h = c.args.h} c.requires.u_bound c.requires.fits c.stands_in.ensures c.is_inside-inside.ensures c.item_form.ensures (i.is ∙ ap Ok (i.field-0-is ∙ ap Some i.field-0-0-is))) c.item_effect-effect.ensures

pub carried-requires-in-Ok-Some-Open : goal.carried-requires-in-Ok-Some-Open
carried-requires-in-Ok-Some-Open c =
    let i = c.in-Ok-Some-Open in
    open_here _ _ _ _ _ _ (head-is {h = c.args.h} c.requires.u_bound c.requires.fits c.stands_in.ensures c.is_inside-inside.ensures c.item_form.ensures (i.is ∙ ap Ok (i.field-0-is ∙ ap Some i.field-0-0-is))) c.item_effect-effect-in-Ok-Some-Open.ensures

pub overflow_add-c : goal.overflow_add-c
overflow_add-c c =
    let i = c.in-Ok-Some-Open in
    omega (arith, open_inside (head-is {h = c.args.h} c.requires.u_bound c.requires.fits c.stands_in.ensures c.is_inside-inside.ensures c.item_form.ensures (i.is ∙ ap Ok (i.field-0-is ∙ ap Some i.field-0-0-is))), c.requires.u_bound)

pub returns-in-Ok-None : goal.returns-in-Ok-None
returns-in-Ok-None c = goes_none _ _ _ _ c.none-in-Ok-None.ensures

pub returns-in-Err : goal.returns-in-Err
returns-in-Err c = goes_none _ _ _ _ c.none-in-Err.ensures
