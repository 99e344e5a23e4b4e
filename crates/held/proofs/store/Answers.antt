-- The loop's invariant: the words before a are stored.
use mathlib.Core.Path.{◌≡◌}
use native.Mathlib.Nat.{zero-add}
use native.Mathlib.Omega.{arith}
use Rattle.words.proofs.Laws.{overlaid_more}
use Rattle.held.proofs.store.Goals as goal

pub loop-a-preserved : goal.loop-a-preserved
loop-a-preserved c =
    let inv = c.loop-a.invariant in
    (inv.0, inv.1, omega arith, rw c.word_of.ensures (rw zero-add at (overlaid_more (omega arith) inv.3)))

pub returns : goal.returns
returns c =
    let e : c.loop-a.a ≡ c.args.n = omega arith in
    rw e at c.loop-a.invariant.3
