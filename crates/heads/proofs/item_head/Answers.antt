-- By the answer of `item_form`, and by the test that the value fits.
use Rattle.std.proofs.lemmas.Result.{err_from_is_err_and}
use mathlib.Core.Path.{sym, ap, ◌∙◌}
use Rattle.std.specs.Prelude.{Ok, Some}
use native.Mathlib.Omega.{arith}
use borrow.Author.Tests.{lt-ltb, le-ltb}
use Rattle.heads.specs.Head.{head_by, head_of}
use Rattle.heads.proofs.Forms.{form_found}
use Rattle.heads.proofs.item_head.Goals as goal

pub overflow_sub-u : goal.overflow_sub-u
overflow_sub-u c = omega (arith, form_found _ _ c.item_form.ensures (c.in_ok-item_form.was ∙ ap Ok (c.in-Some-Primitive.is ∙ ap Some c.in-Some-Primitive.field-0-is)))

pub returns-then-u-start : goal.returns-then-u-start
unfolding head_of head_by
returns-then-u-start c = simp (sym c.item_form.ensures ∙ (c.in_ok-item_form.was ∙ ap Ok (c.in-Some-Primitive.is ∙ ap Some c.in-Some-Primitive.field-0-is)), lt-ltb _ _ c.if-u-start.true)

pub overflow_sub-u-in-Some-Definite : goal.overflow_sub-u-in-Some-Definite
overflow_sub-u-in-Some-Definite c = omega (arith, form_found _ _ c.item_form.ensures (c.in_ok-item_form.was ∙ ap Ok (c.in-Some-Definite.is ∙ ap Some c.in-Some-Definite.field-0-is)))

pub returns-then-u-start-2 : goal.returns-then-u-start-2
unfolding head_of head_by
returns-then-u-start-2 c = simp (sym c.item_form.ensures ∙ (c.in_ok-item_form.was ∙ ap Ok (c.in-Some-Definite.is ∙ ap Some c.in-Some-Definite.field-0-is)), lt-ltb _ _ c.if-u-start-2.true)

pub returns-else-u-start : goal.returns-else-u-start
unfolding head_of head_by
returns-else-u-start c = simp (sym c.item_form.ensures ∙ (c.in_ok-item_form.was ∙ ap Ok (c.in-Some-Primitive.is ∙ ap Some c.in-Some-Primitive.field-0-is)), le-ltb _ _ c.if-u-start.false)

pub returns-else-u-start-2 : goal.returns-else-u-start-2
unfolding head_of head_by
returns-else-u-start-2 c = simp (sym c.item_form.ensures ∙ (c.in_ok-item_form.was ∙ ap Ok (c.in-Some-Definite.is ∙ ap Some c.in-Some-Definite.field-0-is)), le-ltb _ _ c.if-u-start-2.false)

pub returns-in-Some-Open : goal.returns-in-Some-Open
unfolding head_of head_by
returns-in-Some-Open c = simp (sym c.item_form.ensures ∙ (c.in_ok-item_form.was ∙ ap Ok (c.in-Some-Open.is ∙ ap Some c.in-Some-Open.field-0-is)))

pub returns-in_err-item_form : goal.returns-in_err-item_form
unfolding head_of head_by
returns-in_err-item_form c =
    let p = err_from_is_err_and c.from_residual.result c.from_residual.ensures.1 in
    rw (p.1, p.2) (simp (sym c.item_form.ensures ∙ c.in_err-item_form.was))

pub returns-in-None : goal.returns-in-None
unfolding head_of head_by
returns-in-None c = simp (sym c.item_form.ensures ∙ c.in_ok-item_form.was ∙ ap Ok c.in-None.is)
