-- By the stage.
use Rattle.lasting.proofs.Laws.{pass_none, pass_by, lasts_in}
use native.Mathlib.Omega.{arith}
use Rattle.lasting.proofs.pass.Goals as goal

pub returns-then-m-eq0 : goal.returns-then-m-eq0
returns-then-m-eq0 c = pass_none c.args.x c.args.p c.args.u.now

pub value_on-requires : goal.value_on-requires
value_on-requires c =
    let m = c.most-m.ensures.0 in
    let w = c.within_limit.ensures in
    let near = w.1 (omega arith) in
    let last = lasts_in c.args.x c.most-m.result c.in-Value.is c.most-m.ensures.1 in
    record { some = omega arith; more = omega arith; there = omega arith; near = omega arith }

pub waits_on-requires : goal.waits_on-requires
waits_on-requires c =
    let m = c.most-m.ensures.0 in
    let w = c.within_limit.ensures in
    let near = w.1 (omega arith) in
    let last = lasts_in c.args.x c.most-m.result c.in-Waits.is c.most-m.ensures.1 in
    record { some = omega arith; more = omega arith; there = omega arith; near = omega arith }

pub surplus_on-requires : goal.surplus_on-requires
surplus_on-requires c =
    let m = c.most-m.ensures.0 in
    let w = c.within_limit.ensures in
    let near = w.1 (omega arith) in
    let last = lasts_in c.args.x c.most-m.result c.in-Waveform.is c.most-m.ensures.1 in
    record { some = omega arith; more = omega arith; there = omega arith; near = omega arith; behind = last.1 (omega arith) }

pub returns-in-Value : goal.returns-in-Value
returns-in-Value c = pass_by c.args.x c.args.p c.args.u.now c.in-Value.is c.value_on.ensures

pub returns-in-Waits : goal.returns-in-Waits
returns-in-Waits c = pass_by c.args.x c.args.p c.args.u.now c.in-Waits.is c.waits_on.ensures

pub returns-in-Waveform : goal.returns-in-Waveform
returns-in-Waveform c = pass_by c.args.x c.args.p c.args.u.now c.in-Waveform.is c.surplus_on.ensures

pub returns-in-Head : goal.returns-in-Head
returns-in-Head c = pass_none c.args.x c.args.p c.args.u.now

pub returns-in-Decided : goal.returns-in-Decided
returns-in-Decided c = pass_none c.args.x c.args.p c.args.u.now
