-- Head, groups, tag, length and samples, one after the other.
use Rattle.groups.proofs.Puts.{put_as}
use Rattle.stores.specs.Storing.{put_fits}
use Rattle.sizes.specs.Size.{frame_size}
use Rattle.layout.specs.Measure.{groups_size}
use lib.Seq.{take_all}
use native.Mathlib.Omega.{arith}
use Prim.Native.Nat.{◌+◌, ◌≤◌}
use Rattle.frames.proofs.Stored.{groups-room, samples-room, frame-stored}
use Rattle.maker.proofs.Channels.{made-long}
use Rattle.maker.specs.Given.{channels_made}
use Rattle.settings.specs.declared.Settings.{Settings}
use mir.Facts.{to_z-of_z}
use lib.ListN.{length}
use mathlib.Core.List.{List}
use mathlib.Core.Path.{◌≡◌, refl}
use Rattle.maker.proofs.store_frame.Goals as goal

pub put_rows-b-requires : goal.put_rows-b-requires
put_rows-b-requires c =
    let channels : List Settings =
    let a = c.args in channels_made a.n a.numbers.now a.bits.now in
    let counted : length (channels) ≡ c.args.n =
    let a = c.args in made-long a.n a.numbers.now a.bits.now in
    let room : let a = c.args in 0 + frame_size a.sequences (groups_size 0 (channels)) (length a.samples.now) ≤ length a.out.now =
    omega (arith, c.requires.samples_len_bound.1) in
    let a = c.args in
    (c.requires.rows_fit, groups-room (channels) a.sequences (length a.samples.now) (counted) (to_z-of_z c.ranges.start) (room) c.put_head-a.ensures)

pub returns : goal.returns
returns c =
    let channels : List Settings =
    let a = c.args in channels_made a.n a.numbers.now a.bits.now in
    let counted : length (channels) ≡ c.args.n =
    let a = c.args in made-long a.n a.numbers.now a.bits.now in
    let room : let a = c.args in 0 + frame_size a.sequences (groups_size 0 (channels)) (length a.samples.now) ≤ length a.out.now =
    omega (arith, c.requires.samples_len_bound.1) in
    let a = c.args in
    let start = to_z-of_z c.ranges.start in
    let all = take_all (length a.samples.now) a.samples.now (omega arith) in
    let fits = samples-room (channels) a.sequences (length a.samples.now) (counted) start (room) c.put_head-a.ensures
    c.put_rows-b.ensures c.open_waveform-c.ensures in
    frame-stored (channels) a.sequences (length a.samples.now) (counted) start (room) c.put_head-a.ensures
    c.put_rows-b.ensures c.open_waveform-c.ensures refl
    (put_as all (put_fits (rw all fits) c.copy.ensures))
