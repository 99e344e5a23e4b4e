-- `stores::put_number` meets its contract. The loop's invariant: the stores still to come give the buffer that is wanted.
use mathlib.Core.Path.{◌≡◌, refl, sym, ◌∙◌}
use mathlib.Core.List.{[], List, ◌∷◌}
use Prim.Native.Nat.{ℕ, zero, suc, ◌+◌, ◌-◌, ◌/◌, ◌%◌, ◌<◌}
use native.Mathlib.Omega.{arith}
use lib.ListN.{set, length-set}
use lib.Seq.{sets}
use borrow.Author.Tests.{ltb-true, ltb-false}
use Rattle.stores.specs.Number.{be, length-be}
use Rattle.stores.proofs.Stores.{sets_append, set_sets, putting, putting_kept}
use Rattle.stores.proofs.put_number.Goals as goal

-- A turn: the lowest octet is stored.
lowest : (d : List ℕ) (at i v : ℕ) → 0 < i
    → sets (set d (at + (i - 1)) (v % 256)) at (be (i - 1) (v / 256)) ≡ sets d at (be i v)
unfolding be
lowest d at zero v h = let z : ⊥ = omega arith in absurd z
lowest d at (suc i) v h =
    let e : suc i - 1 ≡ i = omega arith in
    let u = be i (v / 256) in
    let k = length-be i (v / 256) in
    rw e
    (set_sets u d at (at + i) (v % 256) (omega arith) ∙ rw k at (sets_append u (v % 256 ∷ []) d at))

pub returns-then-overruns : goal.returns-then-overruns
returns-then-overruns c =
    let a = c.args in
    let h = sym c.overruns.ensures ∙ c.if-overruns.true in
    putting_kept (omega (arith, ltb-true, length-be a.w a.x))

pub loop-i-init : goal.loop-i-init
loop-i-init c =
    let h = sym c.overruns.ensures ∙ c.if-overruns.false in
    (omega (arith, ltb-false), refl, refl)

pub overflow_cast-buf : goal.overflow_cast-buf
overflow_cast-buf c = omega arith

pub overflow_add-buf : goal.overflow_add-buf
overflow_add-buf c = omega arith

pub bounds-buf-at : goal.bounds-buf-at
bounds-buf-at c = omega arith

pub loop-i-preserved : goal.loop-i-preserved
loop-i-preserved c =
    let l = c.loop-i in
    let a = c.args in
    let turn = lowest l.buf a.at l.i l.v c.loop-i-test.true in
    (l.invariant.0, simp length-set l.invariant.1, turn ∙ l.invariant.2)

pub overflow_add-result : goal.overflow_add-result
overflow_add-result c = omega arith

pub returns : goal.returns
unfolding be
returns c =
    let a = c.args in
    let l = c.loop-i in
    let e : l.i ≡ 0 = omega arith in
    let k = length-be a.w a.x in
    putting (omega arith) (record { next = omega arith; stored = rw e at l.invariant.2 })
