-- Each way out is what its tests say.
use Rattle.maker.proofs.Makes.{pointer_outside, sequences-outside, channels-none, channels-many, rows_other, frame_by_bits}
use Rattle.framing.specs.Framing.{pointer_fits}
use mir.Facts.{to_z-of_z}
use native.Mathlib.Omega.{arith}
use mathlib.Core.Path.{◌≡◌, ap, sym, ◌∙◌}
use Rattle.maker.proofs.frame_fits.Goals as goal

pub returns-then-not-pointer_fits : goal.returns-then-not-pointer_fits
returns-then-not-pointer_fits c =
    let looked : pointer_fits c.args.start ≡ c.pointer_fits.result =
    ap pointer_fits (sym (to_z-of_z c.ranges.start)) ∙ sym c.pointer_fits.ensures in
    pointer_outside _ _ _ _ _ (looked ∙ c.if-not-pointer_fits.true)

pub returns-then-sequences-ge-FOUR_OCTETS : goal.returns-then-sequences-ge-FOUR_OCTETS
returns-then-sequences-ge-FOUR_OCTETS c = sequences-outside _ _ _ _ _ c.if-sequences-ge-FOUR_OCTETS.true

pub returns-then-channels-lt1 : goal.returns-then-channels-lt1
returns-then-channels-lt1 c = channels-none _ _ _ _ _ c.if-channels-lt1.true

pub returns-then-channels : goal.returns-then-channels
returns-then-channels c = channels-many _ _ _ _ _ c.if-channels.true

pub returns-then-numbers-channels : goal.returns-then-numbers-channels
returns-then-numbers-channels c = rows_other _ _ _ _ _ c.if-numbers-channels.true

pub returns : goal.returns
returns c =
    let looked : pointer_fits c.args.start ≡ c.pointer_fits.result =
    ap pointer_fits (sym (to_z-of_z c.ranges.start)) ∙ sym c.pointer_fits.ensures in
    frame_by_bits _ _ _ _ _ (looked ∙ c.if-not-pointer_fits.false) (omega (arith, c.if-sequences-ge-FOUR_OCTETS.false)) c.if-channels-lt1.false c.if-channels.false c.if-numbers-channels.false
