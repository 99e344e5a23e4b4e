-- Refusals first, in their order; then the frame is stored, whose size is known.
use Rattle.canonical.proofs.Writing.{narrow_fits, narrow_is}
use Rattle.framing.proofs.Framings.{pointer_small}
use Rattle.layout.specs.declared.Layout.{Layout}
use Rattle.octets.specs.Number.{Octets}
use lib.Signed.{mag}
use native.Mathlib.Omega.{arith}
use Prim.Native.Nat.{◌<◌, ◌^◌}
use Rattle.maker.proofs.Makes.{own_fit, own-outside, row-outside, setting-refused, samples-refused, room-refused, frame_split, rows_are, measured_out, Found, found, product_small, groups-small, samples_other, samples-same, size_is, samples_long_out, room_limit, room_short, store_asked, made-refused, made-whole}
use Rattle.maker.specs.Make.{Making, making, frame_in_table}
use mir.Facts.{to_z-of_z}
use lib.ListN.{length}
use lib.IntN.{ℤ}
use mathlib.Core.Path.{◌≡◌, ap, sym, ◌∙◌}
use Rattle.maker.proofs.make_frame.Goals as goal

pub returns-then-not-frame_fits : goal.returns-then-not-frame_fits
returns-then-not-frame_fits c =
    let given : Making =
    let a = c.args in making a.start a.sequences a.channels a.numbers.now a.bits.now a.samples.now in
    let own_is : own_fit (given) ≡ c.frame_fits.result =
    let m = given in
    ap (λ (z : ℤ). frame_in_table z m.sequences m.channels (length m.numbers) (length m.bits)) (sym (to_z-of_z c.ranges.start)) ∙ sym c.frame_fits.ensures in
    let samples-octets : Octets (given).samples =
    λ i. (c.type_inv.samples i).fits in
    let m = given in
    made-refused (samples-octets) c.refused.ensures (setting-refused m _ (own-outside m (own_is ∙ c.if-not-frame_fits.true)))

pub measure-m-requires : goal.measure-m-requires
measure-m-requires c =
    let given : Making =
    let a = c.args in making a.start a.sequences a.channels a.numbers.now a.bits.now a.samples.now in
    let own_is : own_fit (given) ≡ c.frame_fits.result =
    let m = given in
    ap (λ (z : ℤ). frame_in_table z m.sequences m.channels (length m.numbers) (length m.bits)) (sym (to_z-of_z c.ranges.start)) ∙ sym c.frame_fits.ensures in
    rows_are (frame_split _ _ _ _ _ (own_is ∙ c.if-not-frame_fits.false))

pub returns-in_default : goal.returns-in_default
returns-in_default c =
    let given : Making =
    let a = c.args in making a.start a.sequences a.channels a.numbers.now a.bits.now a.samples.now in
    let samples-octets : Octets (given).samples =
    λ i. (c.type_inv.samples i).fits in
    let m = given in
    let outside = measured_out m.channels m.numbers m.bits (sym c.in_default.is ∙ c.measure-m.ensures) in
    made-refused (samples-octets) c.refused-in_default.ensures (setting-refused m _ (row-outside m outside))

pub overflow_mul-sequences : goal.overflow_mul-sequences
overflow_mul-sequences c =
    let given : Making =
    let a = c.args in making a.start a.sequences a.channels a.numbers.now a.bits.now a.samples.now in
    let own_is : own_fit (given) ≡ c.frame_fits.result =
    let m = given in
    ap (λ (z : ℤ). frame_in_table z m.sequences m.channels (length m.numbers) (length m.bits)) (sym (to_z-of_z c.ranges.start)) ∙ sym c.frame_fits.ensures in
    let asked : Making =
    given in
    let layout : Layout =
    c.in-Some.l in
    let laid_out : Found (asked) (layout) =
    found (asked) (layout) (own_is ∙ c.if-not-frame_fits.false) (sym c.in-Some.is ∙ c.measure-m.ensures) in
    record { fits = product_small (laid_out) }

pub returns-then-samples-sequences : goal.returns-then-samples-sequences
returns-then-samples-sequences c =
    let given : Making =
    let a = c.args in making a.start a.sequences a.channels a.numbers.now a.bits.now a.samples.now in
    let own_is : own_fit (given) ≡ c.frame_fits.result =
    let m = given in
    ap (λ (z : ℤ). frame_in_table z m.sequences m.channels (length m.numbers) (length m.bits)) (sym (to_z-of_z c.ranges.start)) ∙ sym c.frame_fits.ensures in
    let samples-octets : Octets (given).samples =
    λ i. (c.type_inv.samples i).fits in
    let asked : Making =
    given in
    let layout : Layout =
    c.in-Some.l in
    let laid_out : Found (asked) (layout) =
    found (asked) (layout) (own_is ∙ c.if-not-frame_fits.false) (sym c.in-Some.is ∙ c.measure-m.ensures) in
    let p = laid_out in
    made-refused (samples-octets) c.refused-then-samples-sequences.ensures (samples-refused (asked) _ p.fit (samples_other p c.if-samples-sequences.true))

pub returns-then-samples-gt-OCTETS : goal.returns-then-samples-gt-OCTETS
returns-then-samples-gt-OCTETS c =
    let given : Making =
    let a = c.args in making a.start a.sequences a.channels a.numbers.now a.bits.now a.samples.now in
    let own_is : own_fit (given) ≡ c.frame_fits.result =
    let m = given in
    ap (λ (z : ℤ). frame_in_table z m.sequences m.channels (length m.numbers) (length m.bits)) (sym (to_z-of_z c.ranges.start)) ∙ sym c.frame_fits.ensures in
    let samples-octets : Octets (given).samples =
    λ i. (c.type_inv.samples i).fits in
    let asked : Making =
    given in
    let layout : Layout =
    c.in-Some.l in
    let laid_out : Found (asked) (layout) =
    found (asked) (layout) (own_is ∙ c.if-not-frame_fits.false) (sym c.in-Some.is ∙ c.measure-m.ensures) in
    let p = laid_out in
    let e = c.if-samples-sequences.false in
    made-refused (samples-octets) c.refused-then-samples-gt-OCTETS.ensures
    (room-refused (asked) _ p.fit (samples-same p e) (samples_long_out p e _ c.if-samples-gt-OCTETS.true))

pub overflow_cast-sequences : goal.overflow_cast-sequences
overflow_cast-sequences c =
    let given : Making =
    let a = c.args in making a.start a.sequences a.channels a.numbers.now a.bits.now a.samples.now in
    let own_is : own_fit (given) ≡ c.frame_fits.result =
    let m = given in
    ap (λ (z : ℤ). frame_in_table z m.sequences m.channels (length m.numbers) (length m.bits)) (sym (to_z-of_z c.ranges.start)) ∙ sym c.frame_fits.ensures in
    let asked : Making =
    given in
    let layout : Layout =
    c.in-Some.l in
    let laid_out : Found (asked) (layout) =
    found (asked) (layout) (own_is ∙ c.if-not-frame_fits.false) (sym c.in-Some.is ∙ c.measure-m.ensures) in
    record { fits = omega (arith, (laid_out).own.most) }

pub overflow_cast-l : goal.overflow_cast-l
overflow_cast-l c =
    let given : Making =
    let a = c.args in making a.start a.sequences a.channels a.numbers.now a.bits.now a.samples.now in
    let own_is : own_fit (given) ≡ c.frame_fits.result =
    let m = given in
    ap (λ (z : ℤ). frame_in_table z m.sequences m.channels (length m.numbers) (length m.bits)) (sym (to_z-of_z c.ranges.start)) ∙ sym c.frame_fits.ensures in
    let asked : Making =
    given in
    let layout : Layout =
    c.in-Some.l in
    let laid_out : Found (asked) (layout) =
    found (asked) (layout) (own_is ∙ c.if-not-frame_fits.false) (sym c.in-Some.is ∙ c.measure-m.ensures) in
    record { fits = groups-small (laid_out) }

pub returns-then-size : goal.returns-then-size
returns-then-size c =
    let given : Making =
    let a = c.args in making a.start a.sequences a.channels a.numbers.now a.bits.now a.samples.now in
    let own_is : own_fit (given) ≡ c.frame_fits.result =
    let m = given in
    ap (λ (z : ℤ). frame_in_table z m.sequences m.channels (length m.numbers) (length m.bits)) (sym (to_z-of_z c.ranges.start)) ∙ sym c.frame_fits.ensures in
    let samples-octets : Octets (given).samples =
    λ i. (c.type_inv.samples i).fits in
    let asked : Making =
    given in
    let layout : Layout =
    c.in-Some.l in
    let laid_out : Found (asked) (layout) =
    found (asked) (layout) (own_is ∙ c.if-not-frame_fits.false) (sym c.in-Some.is ∙ c.measure-m.ensures) in
    let p = laid_out in
    let e = c.if-samples-sequences.false in
    made-refused (samples-octets) c.refused-then-size.ensures
    (room-refused (asked) _ p.fit (samples-same p e) (room_limit _ _ (omega (arith, size_is p e c.frame_size-size.ensures.0, c.if-size.true))))

pub returns-then-out-size : goal.returns-then-out-size
returns-then-out-size c =
    let given : Making =
    let a = c.args in making a.start a.sequences a.channels a.numbers.now a.bits.now a.samples.now in
    let own_is : own_fit (given) ≡ c.frame_fits.result =
    let m = given in
    ap (λ (z : ℤ). frame_in_table z m.sequences m.channels (length m.numbers) (length m.bits)) (sym (to_z-of_z c.ranges.start)) ∙ sym c.frame_fits.ensures in
    let samples-octets : Octets (given).samples =
    λ i. (c.type_inv.samples i).fits in
    let asked : Making =
    given in
    let layout : Layout =
    c.in-Some.l in
    let laid_out : Found (asked) (layout) =
    found (asked) (layout) (own_is ∙ c.if-not-frame_fits.false) (sym c.in-Some.is ∙ c.measure-m.ensures) in
    let p = laid_out in
    let e = c.if-samples-sequences.false in
    made-refused (samples-octets) c.refused-then-out-size.ensures
    (room-refused (asked) _ p.fit (samples-same p e) (room_short _ _ (omega (arith, size_is p e c.frame_size-size.ensures.0, c.if-out-size.true))))

pub overflow_cast-start : goal.overflow_cast-start
overflow_cast-start c =
    let given : Making =
    let a = c.args in making a.start a.sequences a.channels a.numbers.now a.bits.now a.samples.now in
    let own_is : own_fit (given) ≡ c.frame_fits.result =
    let m = given in
    ap (λ (z : ℤ). frame_in_table z m.sequences m.channels (length m.numbers) (length m.bits)) (sym (to_z-of_z c.ranges.start)) ∙ sym c.frame_fits.ensures in
    let asked : Making =
    given in
    let layout : Layout =
    c.in-Some.l in
    let laid_out : Found (asked) (layout) =
    found (asked) (layout) (own_is ∙ c.if-not-frame_fits.false) (sym c.in-Some.is ∙ c.measure-m.ensures) in
    let start_small : mag (asked).start < 2 ^ 31 =
    pointer_small (asked).start (laid_out).own.pointer in
    narrow_fits (asked).start (start_small)

pub overflow_cast-sequences-2 : goal.overflow_cast-sequences-2
overflow_cast-sequences-2 c =
    let given : Making =
    let a = c.args in making a.start a.sequences a.channels a.numbers.now a.bits.now a.samples.now in
    let own_is : own_fit (given) ≡ c.frame_fits.result =
    let m = given in
    ap (λ (z : ℤ). frame_in_table z m.sequences m.channels (length m.numbers) (length m.bits)) (sym (to_z-of_z c.ranges.start)) ∙ sym c.frame_fits.ensures in
    let asked : Making =
    given in
    let layout : Layout =
    c.in-Some.l in
    let laid_out : Found (asked) (layout) =
    found (asked) (layout) (own_is ∙ c.if-not-frame_fits.false) (sym c.in-Some.is ∙ c.measure-m.ensures) in
    record { fits = omega (arith, (laid_out).own.most) }

pub store_frame-stored-requires : goal.store_frame-stored-requires
store_frame-stored-requires c =
    let told = let given : Making =
    let a = c.args in making a.start a.sequences a.channels a.numbers.now a.bits.now a.samples.now in
    let own_is : own_fit (given) ≡ c.frame_fits.result =
    let m = given in
    ap (λ (z : ℤ). frame_in_table z m.sequences m.channels (length m.numbers) (length m.bits)) (sym (to_z-of_z c.ranges.start)) ∙ sym c.frame_fits.ensures in
    let asked : Making =
    given in
    let layout : Layout =
    c.in-Some.l in
    let laid_out : Found (asked) (layout) =
    found (asked) (layout) (own_is ∙ c.if-not-frame_fits.false) (sym c.in-Some.is ∙ c.measure-m.ensures) in
    store_asked (laid_out) c.if-samples-gt-OCTETS.false c.frame_size-size.ensures.0 _ c.if-out-size.false in
    record {
      rows_fit = told.0;
      samples_len_bound = told.1;
    }

pub returns : goal.returns
returns c =
    let given : Making =
    let a = c.args in making a.start a.sequences a.channels a.numbers.now a.bits.now a.samples.now in
    let own_is : own_fit (given) ≡ c.frame_fits.result =
    let m = given in
    ap (λ (z : ℤ). frame_in_table z m.sequences m.channels (length m.numbers) (length m.bits)) (sym (to_z-of_z c.ranges.start)) ∙ sym c.frame_fits.ensures in
    let samples-octets : Octets (given).samples =
    λ i. (c.type_inv.samples i).fits in
    let asked : Making =
    given in
    let layout : Layout =
    c.in-Some.l in
    let laid_out : Found (asked) (layout) =
    found (asked) (layout) (own_is ∙ c.if-not-frame_fits.false) (sym c.in-Some.is ∙ c.measure-m.ensures) in
    let start_small : mag (asked).start < 2 ^ 31 =
    pointer_small (asked).start (laid_out).own.pointer in
    let m = asked in
    made-whole (samples-octets) (laid_out) c.if-samples-sequences.false c.frame_size-size.ensures.0
    (omega (arith, c.if-size.false)) c.if-out-size.false (narrow_is m.start (start_small)) c.store_frame-stored.ensures
