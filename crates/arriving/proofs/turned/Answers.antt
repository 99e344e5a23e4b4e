-- By what became of the item.
use Rattle.std.specs.Prelude.{Ok}
use Rattle.std.proofs.Common.{ap, ◌∙◌}
use Rattle.arriving.proofs.Laws.{turned_on, turned-frame, turned-refused}
use Rattle.arriving.proofs.turned.Goals as goal

pub returns-in-Ok-None : goal.returns-in-Ok-None
returns-in-Ok-None c =
    let h = c.in-Ok-None in
    turned_on c.args.left (h.is ∙ ap Ok (rw h.is at h.field-0-is)) c.goes_on.ensures

pub returns-in-Ok-Some : goal.returns-in-Ok-Some
returns-in-Ok-Some c =
    let h = c.in-Ok-Some in
    turned-frame c.args.left h.v (h.is ∙ ap Ok (rw h.is at h.field-0-is)) c.framed.ensures

pub returns-in-Err : goal.returns-in-Err
returns-in-Err c = turned-refused c.args.left _ c.within_of.result c.in-Err.is c.in_stand.ensures c.within_of.ensures c.condemned.ensures
