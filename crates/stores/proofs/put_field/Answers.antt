-- `stores::put_field` meets its contract: where the whole item fits, tag and width are stored and then the octets.
use mathlib.Core.Path.{sym, ◌∙◌}
use native.Mathlib.Omega.{arith}
use borrow.Author.Tests.{ltb-true, ltb-false}
use Rattle.stores.specs.Number.{field, length-be, length-field}
use Rattle.stores.proofs.Stores.{putting_kept, putting_then}
use Rattle.stores.proofs.put_field.Goals as goal

pub returns-then-overruns : goal.returns-then-overruns
returns-then-overruns c =
    let a = c.args in
    let h = sym c.overruns.ensures ∙ c.if-overruns.true in
    putting_kept (omega (arith, ltb-true, length-field a.tag a.w a.x))

pub returns : goal.returns
unfolding field
returns c =
    let a = c.args in
    let h = sym c.overruns.ensures ∙ c.if-overruns.false in
    putting_then (omega (arith, ltb-false, length-be a.w a.x)) c.put_two-next.ensures (rw c.from-2.ensures at c.put_number.ensures)
