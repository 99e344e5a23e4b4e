-- By what the head says.
use Rattle.arriving.proofs.Laws.{confined-none, confined-more, confined_faulty, confined-past, confined-fits, confined_definite, confined_open}
use Rattle.std.specs.Prelude.{Ok, Err, Some}
use Rattle.std.proofs.Common.{◌≡◌, ap, ◌∙◌, arith, rules}
use Rattle.arriving.proofs.confined.Goals as goal

pub returns-in_err-form : goal.returns-in_err-form
returns-in_err-form c =
    let same : c.from_residual.result ≡ Err c.in_err-form.field-0.0 = search rules in
    same ∙ confined_faulty _ c.in_err-form.was

pub returns-then-left-eq0 : goal.returns-then-left-eq0
returns-then-left-eq0 c = confined-none _ (c.in_ok-form.was ∙ ap Ok c.in-None.is) (omega arith)

pub returns-then-left-len : goal.returns-then-left-len
returns-then-left-len c =
    let h = c.in-Some-Primitive in
    confined-past _ (c.in_ok-form.was ∙ ap Ok (h.is ∙ ap Some h.field-0-is)) (omega arith)

pub returns-else-left-eq0 : goal.returns-else-left-eq0
returns-else-left-eq0 c = confined-more _ (c.in_ok-form.was ∙ ap Ok c.in-None.is) (λ z. omega arith)

pub returns-else-left-len : goal.returns-else-left-len
returns-else-left-len c =
    let h = c.in-Some-Primitive in
    confined-fits _ (c.in_ok-form.was ∙ ap Ok (h.is ∙ ap Some h.field-0-is)) (omega arith)

pub returns-in-Some-Definite : goal.returns-in-Some-Definite
returns-in-Some-Definite c =
    let h = c.in-Some-Definite in
    confined_definite _ (c.in_ok-form.was ∙ ap Ok (h.is ∙ ap Some h.field-0-is))

pub returns-in-Some-Open : goal.returns-in-Some-Open
returns-in-Some-Open c =
    let h = c.in-Some-Open in
    confined_open _ (c.in_ok-form.was ∙ ap Ok (h.is ∙ ap Some h.field-0-is))
