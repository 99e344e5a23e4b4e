-- Head, groups, tag, length and samples, one after the other.
use Rattle.frames.specs.Channels.{settings_of}
use mathlib.Core.Path.{◌≡◌}
use lib.ListN.{length}
use mir.Facts.{to_z-of_z}
use Rattle.frames.proofs.Coming.{taken-long}
use Rattle.frames.proofs.Given.{asked-samples, asked-long}
use Rattle.frames.proofs.Stored.{groups-room, samples-room, frame-stored}
use Rattle.frames.proofs.store_frame.Goals as goal

pub put_groups-b-requires : goal.put_groups-b-requires
put_groups-b-requires c =
    let tabled : let a = c.args in length (settings_of a.channels) ≡ a.channels.count =
    let a = c.args in taken-long a.channels.words.now a.channels.few in
    let a = c.args in
    let start = to_z-of_z c.ranges.start in
    groups-room (settings_of a.channels) a.sequences a.octets (tabled) start c.requires.octets_in_bounds c.put_head-a.ensures

pub put_samples-requires : goal.put_samples-requires
put_samples-requires c =
    let tabled : let a = c.args in length (settings_of a.channels) ≡ a.channels.count =
    let a = c.args in taken-long a.channels.words.now a.channels.few in
    let a = c.args in
    let start = to_z-of_z c.ranges.start in
    let room =
    samples-room (settings_of a.channels) a.sequences a.octets (tabled) start c.requires.octets_in_bounds c.put_head-a.ensures
    c.put_groups-b.ensures c.open_waveform-c.ensures in
    let samples = asked-samples (settings_of a.channels) a.sequences a.w.now c.requires.octets_value.0 c.requires.whole in
    record {
      whole = c.requires.whole;
      octets_in_bounds = (samples.0, samples.1, room);
    }

pub returns : goal.returns
returns c =
    let tabled : let a = c.args in length (settings_of a.channels) ≡ a.channels.count =
    let a = c.args in taken-long a.channels.words.now a.channels.few in
    let a = c.args in
    let start = to_z-of_z c.ranges.start in
    frame-stored (settings_of a.channels) a.sequences a.octets (tabled) start c.requires.octets_in_bounds c.put_head-a.ensures
    c.put_groups-b.ensures c.open_waveform-c.ensures
    (asked-long a.little (settings_of a.channels) a.sequences a.w.now c.requires.octets_value.0) c.put_samples.ensures
