-- By what the head says.
use Rattle.arriving.proofs.Laws.{headed-more, headed_faulty, headed_primitive, headed_definite, headed_open}
use Rattle.std.specs.Prelude.{Ok, Some}
use Rattle.std.proofs.Common.{subst, ap, ◌∙◌, arith}
use Rattle.arriving.specs.Arriving.{Bounded}
use Rattle.arriving.proofs.headed.Goals as goal

pub primitive_begins-requires : goal.primitive_begins-requires
primitive_begins-requires c =
    let h = c.in-Ok-Some-Primitive in
    let item = rw h.is at h.field-0-is in
    subst (Bounded c.args.x c.args.n) (h.is ∙ ap Ok (item ∙ ap Some (rw (h.is, item) at h.field-0-0-is))) c.requires

pub overflow_add-count : goal.overflow_add-count
overflow_add-count c =
    let h = c.in-Ok-Some-Definite in
    let item = rw h.is at h.field-0-is in
    let near = subst (Bounded c.args.x c.args.n) (h.is ∙ ap Ok (item ∙ ap Some (rw (h.is, item) at h.field-0-0-is))) c.requires in
    omega (arith, near.count, near.small)

pub returns-in-Ok-None : goal.returns-in-Ok-None
returns-in-Ok-None c =
    let h = c.in-Ok-None in
    let more = h.is ∙ ap Ok (rw h.is at h.field-0-is) in
    headed-more c.args.p c.args.n more (subst (Bounded c.args.x c.args.n) more c.requires)

pub returns-in-Err : goal.returns-in-Err
returns-in-Err c = headed_faulty c.args.p c.args.n _ c.in-Err.is c.marked.ensures c.within_of.ensures c.condemned.ensures

pub returns-in-Ok-Some-Primitive : goal.returns-in-Ok-Some-Primitive
returns-in-Ok-Some-Primitive c =
    let h = c.in-Ok-Some-Primitive in
    let item = rw h.is at h.field-0-is in
    headed_primitive c.args.p c.args.n _ _ _ (h.is ∙ ap Ok (item ∙ ap Some (rw (h.is, item) at h.field-0-0-is))) c.primitive_begins.ensures

pub returns-in-Ok-Some-Definite : goal.returns-in-Ok-Some-Definite
returns-in-Ok-Some-Definite c =
    let h = c.in-Ok-Some-Definite in
    let item = rw h.is at h.field-0-is in
    headed_definite c.args.p c.args.n _ _ _ (h.is ∙ ap Ok (item ∙ ap Some (rw (h.is, item) at h.field-0-0-is))) c.group_begins.ensures

pub returns-in-Ok-Some-Open : goal.returns-in-Ok-Some-Open
returns-in-Ok-Some-Open c =
    let h = c.in-Ok-Some-Open in
    let item = rw h.is at h.field-0-is in
    headed_open c.args.p c.args.n _ _ (h.is ∙ ap Ok (item ∙ ap Some (rw (h.is, item) at h.field-0-0-is))) c.group_begins-in-Ok-Some-Open.ensures
