-- By the two tests: nothing is laid, or as much as can be, first of samples of two octets.
use native.Mathlib.Omega.{arith}
use Rattle.rows.proofs.Laying.{lays_past, lays_all}
use Rattle.rows.proofs.lay.Goals as goal

pub returns-then-u-gt-OCTETS : goal.returns-then-u-gt-OCTETS
returns-then-u-gt-OCTETS c =
    let a = c.args in
    lays_past a.t.now a.v a.at a.count a.u.now a.out.now (omega arith)

pub returns-then-most-count : goal.returns-then-most-count
returns-then-most-count c =
    let a = c.args in
    lays_past a.t.now a.v a.at a.count a.u.now a.out.now (omega arith)

pub returns : goal.returns
returns c =
    let on = c.lay_on in
    let twos = c.lay_twos-twos in
    let a = c.args in
    lays_all a.t.now a.v a.at a.count a.u.now a.out.now twos.result on.result _ _ (omega arith) twos.ensures on.ensures.onward on.ensures.given_value
