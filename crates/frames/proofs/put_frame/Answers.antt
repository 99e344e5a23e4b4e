-- Where the samples there are no more octets than a file may have and the frame fits it is stored, and else nothing is.
use Rattle.frames.proofs.Given.{FirstRecords, octets_are, told_groups, not-given, parts_given, given-long, frame-asked}
use lib.ListN.{length}
use mathlib.Core.Path.{sym, ◌∙◌}
use native.Mathlib.Omega.{arith}
use mir.Facts.{to_z-of_z}
use borrow.Author.Tests.{ltb-true, ltb-false}
use Rattle.stores.proofs.Stores.{putting, putting_kept}
use Rattle.groups.proofs.Puts.{put_as}
use Rattle.frames.proofs.put_frame.Goals as goal

pub there_octets-octets-requires : goal.there_octets-octets-requires
there_octets-octets-requires c =
    let told : let a = c.args in
    FirstRecords a.t.now a.count c.at_most.result c.layout_in-l.result =
    record { few = c.at_most.ensures; layout = c.layout_in-l.ensures } in
    let t = told in octets_are t

pub returns-then-octets-gt-OCTETS : goal.returns-then-octets-gt-OCTETS
returns-then-octets-gt-OCTETS c =
    let told : let a = c.args in
    FirstRecords a.t.now a.count c.at_most.result c.layout_in-l.result =
    record { few = c.at_most.ensures; layout = c.layout_in-l.ensures } in
    let a = c.args in
    not-given (told) a.sequences a.w.now c.there_octets-octets.ensures a.start a.little _ _ c.if-octets-gt-OCTETS.true

pub overflow_cast-l : goal.overflow_cast-l
overflow_cast-l c =
    let told : let a = c.args in
    FirstRecords a.t.now a.count c.at_most.result c.layout_in-l.result =
    record { few = c.at_most.ensures; layout = c.layout_in-l.ensures } in
    omega (arith, told_groups (told))

pub returns-then-overruns : goal.returns-then-overruns
returns-then-overruns c =
    let told : let a = c.args in
    FirstRecords a.t.now a.count c.at_most.result c.layout_in-l.result =
    record { few = c.at_most.ensures; layout = c.layout_in-l.ensures } in
    let a = c.args in
    let h = sym c.overruns.ensures ∙ c.if-overruns.true in
    let long = given-long (told) a.sequences a.w.now c.there_octets-octets.ensures c.if-octets-gt-OCTETS.false a.start a.little in
    putting_kept (omega (arith, ltb-true, c.frame_size-size.ensures.0))

pub store_frame-requires : goal.store_frame-requires
store_frame-requires c =
    let told : let a = c.args in
    FirstRecords a.t.now a.count c.at_most.result c.layout_in-l.result =
    record { few = c.at_most.ensures; layout = c.layout_in-l.ensures } in
    let a = c.args in
    let h = sym c.overruns.ensures ∙ c.if-overruns.false in
    let all = frame-asked told a.sequences a.w.now c.there_octets-octets.ensures c.if-octets-gt-OCTETS.false a.at (length a.out.now)
    (omega (arith, ltb-false, c.frame_size-size.ensures.0)) in
    record { whole = all.0.1; octets_value = all.1.0; octets_in_bounds = all.1.1 }

pub returns : goal.returns
returns c =
    let told : let a = c.args in
    FirstRecords a.t.now a.count c.at_most.result c.layout_in-l.result =
    record { few = c.at_most.ensures; layout = c.layout_in-l.ensures } in
    let a = c.args in
    let h = sym c.overruns.ensures ∙ c.if-overruns.false in
    let long = given-long (told) a.sequences a.w.now c.there_octets-octets.ensures c.if-octets-gt-OCTETS.false a.start a.little in
    let parts = parts_given (told) a.sequences a.w.now c.there_octets-octets.ensures c.if-octets-gt-OCTETS.false a.little (to_z-of_z c.ranges.start) in
    putting (omega (arith, ltb-false, c.frame_size-size.ensures.0)) (put_as parts c.store_frame.ensures)
