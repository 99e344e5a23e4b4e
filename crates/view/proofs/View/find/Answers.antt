-- By the three tests; a sample that is there and lies in a file has a small place.
use mathlib.Core.Path.{sym, ◌∙◌}
use Prim.Native.Nat.{◌≤◌, ◌<◌}
use native.Mathlib.Omega.{arith}
use borrow.Author.Tests.{lt-ltb, le-ltb}
use Rattle.layout.proofs.Rows.{cells_some}
use Rattle.spread.proofs.Lying.{lies_in_lem, there-named, spread_inside}
use Rattle.view.specs.View.{spread_of, count_seen, there_seen, place_seen, lies_in}
use Rattle.view.proofs.View.find.Goals as goal

pub returns-then-count-number : goal.returns-then-count-number
returns-then-count-number c =
    let a = c.args in
    let k : count_seen a.self ≤ a.number = omega (arith, c.if-count-number.true, rw c.spread-x.ensures at c.count.ensures) in
    simp (le-ltb _ _ k)

pub place_of-requires : goal.place_of-requires
place_of-requires c =
    let v = c.args.self in
    let n = c.args.number in
    let k : n < there_seen v = omega (arith, c.if-number-there.true, rw c.spread-x.ensures at c.there.ensures) in
    let l = lies_in_lem {size = c.args.size} {x = spread_of v} (sym (rw c.spread-x.ensures at c.lies.ensures) ∙ c.if-lies.true) in
    rw c.spread-x.ensures (cells_some v.sequences v.settings.block n (there-named (spread_of v) n k), omega (arith, l.small, spread_inside l n k))

pub returns-then-number-there : goal.returns-then-number-there
unfolding place_seen lies_in
returns-then-number-there c =
    let v = c.args.self in
    let n = c.args.number in
    let k : n < there_seen v = omega (arith, c.if-number-there.true, rw c.spread-x.ensures at c.there.ensures) in
    simp (lt-ltb _ _ (there-named (spread_of v) n k), lt-ltb _ _ k, sym (rw c.spread-x.ensures at c.lies.ensures) ∙ c.if-lies.true, rw c.spread-x.ensures at c.place_of.ensures)

pub returns-then-lies : goal.returns-then-lies
unfolding place_seen lies_in
returns-then-lies c =
    let v = c.args.self in
    let n = c.args.number in
    let h : n < count_seen v = omega (arith, c.if-count-number.false, rw c.spread-x.ensures at c.count.ensures) in
    let k : there_seen v ≤ n = omega (arith, c.if-number-there.false, rw c.spread-x.ensures at c.there.ensures) in
    simp (lt-ltb _ _ h, le-ltb _ _ k, sym (rw c.spread-x.ensures at c.lies.ensures) ∙ c.if-lies.true)

pub returns : goal.returns
unfolding lies_in
returns c =
    let v = c.args.self in
    let n = c.args.number in
    let h : n < count_seen v = omega (arith, c.if-count-number.false, rw c.spread-x.ensures at c.count.ensures) in
    simp (lt-ltb _ _ h, sym (rw c.spread-x.ensures at c.lies.ensures) ∙ c.if-lies.false)
