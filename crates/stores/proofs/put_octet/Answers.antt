-- `stores::put_octet` meets its contract: where the octet fits it is one store, and else nothing is.
use mathlib.Core.Path.{refl, sym, ◌∙◌}
use native.Mathlib.Omega.{arith}
use borrow.Author.Tests.{ltb-true, ltb-false}
use Rattle.stores.proofs.Stores.{putting, putting_kept}
use Rattle.stores.proofs.put_octet.Goals as goal

pub returns-then-overruns : goal.returns-then-overruns
returns-then-overruns c = let h = sym c.overruns.ensures ∙ c.if-overruns.true in putting_kept (omega (arith, ltb-true))

pub bounds-buf-at : goal.bounds-buf-at
bounds-buf-at c = let h = sym c.overruns.ensures ∙ c.if-overruns.false in omega (arith, ltb-false)

pub overflow_add-result : goal.overflow_add-result
overflow_add-result c = let h = sym c.overruns.ensures ∙ c.if-overruns.false in omega (arith, ltb-false)

pub returns : goal.returns
returns c =
    let h = sym c.overruns.ensures ∙ c.if-overruns.false in
    putting (omega (arith, ltb-false)) (record { next = refl; stored = refl })
