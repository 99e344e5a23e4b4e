-- `stores::put_length` meets its contract: where the form fits it is one octet, or an octet and then the length's own.
-- A long length, whose form has k octets.
use mathlib.Core.Path.{◌≡◌, sym, ◌∙◌}
use mathlib.Core.List.{[], List, ◌∷◌}
use Prim.Native.Nat.{ℕ, ◌+◌, ◌-◌, ◌≤◌}
use native.Mathlib.Omega.{arith}
use lib.ListN.{length}
use borrow.Author.Tests.{ltb-true, ltb-false}
use Rattle.stores.specs.Number.{be, length-be}
use Rattle.stores.specs.Length.{shortest, holding, shortest_short, shortest-long, length-shortest-long}
use Rattle.stores.specs.Storing.{Putting}
use Rattle.stores.proofs.Length.{length-shortest}
use Rattle.stores.proofs.Stores.{putting_kept, putting_then}
use Rattle.stores.proofs.put_length.Goals as goal

long : {d e f : List ℕ} {at r t : ℕ} (n k : ℕ) → 128 ≤ n → k ≡ length (shortest n) → at + k ≤ length d
    → Putting d at ((127 + k) ∷ []) r e → Putting e r (be (k - 1) n) t f → Putting d at (shortest n) t f
long n k h l room p q =
    let s = length-shortest-long n h in
    let a : 127 + k ≡ 128 + holding n = omega arith in
    let b : k - 1 ≡ holding n = omega arith in
    rw (shortest-long n h) (putting_then (omega (arith, length-be (holding n) n)) (rw a at p) (rw b at q))

pub returns-then-overruns : goal.returns-then-overruns
returns-then-overruns c =
    let h = sym c.overruns.ensures ∙ c.if-overruns.true in
    putting_kept (omega (arith, ltb-true))

pub returns-then-n-lt128 : goal.returns-then-n-lt128
returns-then-n-lt128 c =
    rw (shortest_short c.args.n c.if-n-lt128.true) c.put_octet.ensures

pub overflow_add-size : goal.overflow_add-size
overflow_add-size c =
    omega (arith, length-shortest c.args.n)

pub overflow_cast-size : goal.overflow_cast-size
overflow_cast-size c =
    omega (arith, length-shortest c.args.n)

pub overflow_sub-size : goal.overflow_sub-size
overflow_sub-size c =
    omega (arith, length-shortest c.args.n)

pub returns : goal.returns
returns c =
    let size = c.length_octets-size in
    let h = sym c.overruns.ensures ∙ c.if-overruns.false in
    long c.args.n size.result c.if-n-lt128.false size.ensures (omega (arith, ltb-false))
    c.put_octet-next.ensures (rw c.from.ensures at c.put_number.ensures)
