-- By the answer of `length_field`.
use Rattle.std.proofs.lemmas.Result.{err_from_is_err_and}
use mathlib.Core.Path.{sym, ap, ◌∙◌}
use Rattle.std.specs.Prelude.{Ok, Some}
use native.Mathlib.Omega.{arith}
use Rattle.heads.specs.Head.{primitive_form}
use Rattle.heads.proofs.Heads.{length_found}
use Rattle.heads.proofs.primitive_form.Goals as goal

pub overflow_add-result : goal.overflow_add-result
overflow_add-result c = omega (arith, length_found _ c.length_field.ensures (c.in_ok-length.was ∙ ap Ok (c.in-Some.is ∙ ap Some c.in-Known.is)))

pub returns-in-Known : goal.returns-in-Known
unfolding primitive_form
returns-in-Known c = simp (sym c.length_field.ensures ∙ c.in_ok-length.was ∙ ap Ok (c.in-Some.is ∙ ap Some c.in-Known.is))

pub returns-in-Open : goal.returns-in-Open
unfolding primitive_form
returns-in-Open c = simp (sym c.length_field.ensures ∙ c.in_ok-length.was ∙ ap Ok (c.in-Some.is ∙ ap Some c.in-Open.is))

pub returns-in_err-length : goal.returns-in_err-length
unfolding primitive_form
returns-in_err-length c =
    let p = err_from_is_err_and c.from_residual.result c.from_residual.ensures.1 in
    rw (p.1, p.2) (simp (sym c.length_field.ensures ∙ c.in_err-length.was))

pub returns-in_default : goal.returns-in_default
unfolding primitive_form
returns-in_default c = simp (sym c.length_field.ensures ∙ c.in_ok-length.was ∙ ap Ok c.in_default.is)
