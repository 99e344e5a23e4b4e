-- By the two tests.
use mathlib.Core.Path.{sym, ap, ◌∙◌}
use Prim.Native.Nat.{◌≤◌, ◌<◌}
use native.Mathlib.Omega.{arith}
use Rattle.heads.specs.Answer.{answered}
use Rattle.view.specs.View.{count_seen, lies_in}
use Rattle.bulk.proofs.Reading.{none-asked, laid-asked, unlaid_asked}
use Rattle.bulk.proofs.readable.Goals as goal

pub returns-then-count-first : goal.returns-then-count-first
returns-then-count-first c =
    let a = c.args in
    let none : count_seen a.v ≤ a.first = omega (arith, c.if-count-first.true, rw c.spread-x.ensures at c.count.ensures) in
    none-asked a.size a.v a.first _ none

pub returns-then-lies : goal.returns-then-lies
unfolding lies_in
returns-then-lies c =
    let a = c.args in
    let some : a.first < count_seen a.v = omega (arith, c.if-count-first.false, rw c.spread-x.ensures at c.count.ensures) in
    let lies = sym (rw c.spread-x.ensures at c.lies.ensures) ∙ c.if-lies.true in
    ap answered (rw c.spread-x.ensures at c.readable.ensures) ∙ laid-asked a.size a.v a.first _ some lies

pub returns : goal.returns
unfolding lies_in
returns c =
    let a = c.args in
    let some : a.first < count_seen a.v = omega (arith, c.if-count-first.false, rw c.spread-x.ensures at c.count.ensures) in
    unlaid_asked a.size a.v a.first _ some (sym (rw c.spread-x.ensures at c.lies.ensures) ∙ c.if-lies.false)
