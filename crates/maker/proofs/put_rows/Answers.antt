-- The groups still to come, stored from here on, give the wanted buffer.
use Rattle.frames.proofs.Coming.{Nth, grouped_first, grouped_next, grouped_done}
use Rattle.maker.proofs.Channels.{row-there, fit_at, made-long, made_at}
use Rattle.maker.specs.Given.{given_at, channels_made}
use mathlib.Core.Path.{sym, ◌∙◌}
use native.Mathlib.Omega.{arith}
use Rattle.maker.proofs.put_rows.Goals as goal

pub loop-index-init : goal.loop-index-init
loop-index-init c = grouped_first _ _ _ c.requires.1

pub invariant_of-row : goal.invariant_of-row
invariant_of-row c = record { there = row-there c.requires.0.there _ c.loop-index-test.true }

pub settings-requires : goal.settings-requires
settings-requires c =
    let a = c.args in
    fit_at a.n (given_at a.numbers.now a.bits.now) c.requires.0.fit _ c.loop-index-test.true

pub overflow_cast-index : goal.overflow_cast-index
overflow_cast-index c = omega (arith, c.requires.0.there.few, c.loop-index-test.true)

pub loop-index-preserved : goal.loop-index-preserved
loop-index-preserved c =
    let a = c.args in
    let h = c.loop-index-test.true in
    let nth : Nth (channels_made a.n a.numbers.now a.bits.now) c.loop-index.index c.settings.result =
    record { inside = omega (arith, made-long a.n a.numbers.now a.bits.now); is = c.settings.ensures ∙ sym (made_at a.n a.numbers.now a.bits.now c.loop-index.index h) } in
    grouped_next c.loop-index.invariant nth c.put_group-next.ensures

pub shape_of-out : goal.shape_of-out
shape_of-out c = c.loop-index.invariant.coming.long

pub returns : goal.returns
returns c =
    let a = c.args in
    grouped_done c.loop-index.invariant (omega (arith, made-long a.n a.numbers.now a.bits.now, c.loop-index-test.false))
