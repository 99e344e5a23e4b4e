-- `stores::put_two` meets its contract: where the octets fit they are two stores, and else nothing is.
use mathlib.Core.Path.{refl, sym, ◌∙◌}
use native.Mathlib.Numerals.{add-one}
use native.Mathlib.Omega.{arith}
use lib.ListN.{length-set}
use borrow.Author.Tests.{ltb-true, ltb-false}
use Rattle.stores.proofs.Stores.{putting, putting_kept}
use Rattle.stores.proofs.put_two.Goals as goal

pub returns-then-overruns : goal.returns-then-overruns
returns-then-overruns c = let h = sym c.overruns.ensures ∙ c.if-overruns.true in putting_kept (omega (arith, ltb-true))

pub bounds-buf-at : goal.bounds-buf-at
bounds-buf-at c = let h = sym c.overruns.ensures ∙ c.if-overruns.false in omega (arith, ltb-false)

pub overflow_add-buf : goal.overflow_add-buf
overflow_add-buf c = let h = sym c.overruns.ensures ∙ c.if-overruns.false in omega (arith, ltb-false)

pub bounds-buf-at-2 : goal.bounds-buf-at-2
bounds-buf-at-2 c =
    let h = sym c.overruns.ensures ∙ c.if-overruns.false in
    simp length-set (omega (arith, ltb-false))

pub overflow_add-result : goal.overflow_add-result
overflow_add-result c = let h = sym c.overruns.ensures ∙ c.if-overruns.false in omega (arith, ltb-false)

pub returns : goal.returns
returns c =
    let h = sym c.overruns.ensures ∙ c.if-overruns.false in
    putting (omega (arith, ltb-false)) (record { next = refl; stored = rw add-one })
