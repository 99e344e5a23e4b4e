-- Each way out is a law of the head, by its first octet.
use mathlib.Core.Path.{sym, ◌∙◌}
use Rattle.heads.proofs.Heads.{form_none, form_context, form_barred, form_group, form_primitive, rest-is}
use Rattle.heads.proofs.item_form.Goals as goal

pub returns-then-u-eq0 : goal.returns-then-u-eq0
returns-then-u-eq0 c = form_none _ _ c.if-u-eq0.true

pub returns-then-unknown_context : goal.returns-then-unknown_context
returns-then-unknown_context c = form_context _ _ c.if-u-eq0.false (sym c.unknown_context.ensures ∙ c.if-unknown_context.true)

pub returns-then-barred : goal.returns-then-barred
returns-then-barred c =
    form_barred _ _ c.if-u-eq0.false (sym c.unknown_context.ensures ∙ c.if-unknown_context.false)
    (sym c.barred.ensures ∙ c.if-barred.true)

pub returns-then-tag-eq63 : goal.returns-then-tag-eq63
returns-then-tag-eq63 c =
    c.group_form.ensures ∙ simp rest-is
    (form_group _ _ c.if-u-eq0.false (sym c.unknown_context.ensures ∙ c.if-unknown_context.false)
    (sym c.barred.ensures ∙ c.if-barred.false) c.if-tag-eq63.true)

pub returns-else-tag-eq63 : goal.returns-else-tag-eq63
returns-else-tag-eq63 c =
    c.primitive_form.ensures ∙ simp rest-is
    (form_primitive _ _ c.if-u-eq0.false (sym c.unknown_context.ensures ∙ c.if-unknown_context.false)
    (sym c.barred.ensures ∙ c.if-barred.false) c.if-tag-eq63.false)
