-- By the place: among the words, or among the octets.
use mathlib.Core.Path.{◌≡◌, ap, sym, ◌∙◌}
use mathlib.Core.List.{◌++◌}
use Prim.Native.Nat.{ℕ, ◌+◌, ◌-◌}
use native.Mathlib.Omega.{arith}
use lib.ListN.{length, get_or, get_or-append}
use lib.Seq.{get_or-append-add}
use Rattle.held.proofs.word_of.Goals as goal

pub overflow_cast-result : goal.overflow_cast-result
overflow_cast-result c =
    let a = c.args in
    omega (arith, c.type_inv.p (a.n - length a.x.now))

pub returns-then-n-x : goal.returns-then-n-x
returns-then-n-x c =
    let a = c.args in
    sym (get_or-append a.x.now a.p.now 0 a.n (omega arith))

pub returns-else-n-x : goal.returns-else-n-x
returns-else-n-x c =
    let a = c.args in
    let behind = a.n - length a.x.now in
    let e : length a.x.now + behind ≡ a.n = omega arith in
    sym (get_or-append-add a.x.now a.p.now behind 0) ∙ ap (λ (n : ℕ). get_or (a.x.now ++ a.p.now) n 0) e
