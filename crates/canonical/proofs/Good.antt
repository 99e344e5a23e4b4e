-- What holds of every recording that an accepted file gives: each number is in its range, and each channel's list has
-- the samples that are there.
use mathlib.Core.Path.{◌≡◌}
use mathlib.Core.List.{List, [], ◌∷◌}
use mathlib.Core.Bool.{true}
use Prim.Native.Nat.{ℕ, ◌^◌, ◌≤◌, ◌<◌}
use mathlib.Core.Logic.{◌⊎◌}
use lib.ListN.{length, get_or}
use Rattle.settings.specs.declared.Settings.{Settings}
use Rattle.settings.specs.Settings.{channel_limit, block_limit, last_data_type, last_interval_unit, last_resolution_unit}
use Rattle.layout.specs.Frame.{width_in, channel_in}
use Rattle.framing.specs.Framing.{pointer_fits}
pub use Rattle.reader.proofs.Good.{GoodScale}
use Rattle.canonical.specs.Recording.{Recorded}
use Rattle.canonical.proofs.Waveform.{SamplesSized}

-- A channel's attributes, the offset as a recording has it.
pub record GoodReported (c : Settings) : Type 0 where
  pub block_low : 0 < c.block
  pub block_high : c.block ≤ block_limit
  pub class : c.class < 65536
  pub lead : c.lead < 65536
  pub datatype : c.datatype ≤ last_data_type
  pub interval : GoodScale last_interval_unit c.interval
  pub resolution : GoodScale last_resolution_unit c.resolution
  pub offset_width : c.offset.width ≡ width_in c
  pub offset : c.offset.bits < 256 ^ width_in c
  pub null_width : (c.null.width ≡ 0) ⊎ (c.null.width ≡ width_in c)
  pub null : c.null.bits < 256 ^ c.null.width

abbrev pub AllReported : List Settings → Type 0
AllReported [] = Unit {0}
AllReported (c ∷ cs) = GoodReported c × AllReported cs

-- A frame whose waveform has `long` octets.
pub record GoodRecorded (r : Recorded) : Type 0 where
  pub start : pointer_fits r.start ≡ true
  pub sequences : r.sequences < 4294967296
  pub some : 0 < length r.channels
  pub few : length r.channels ≤ channel_limit
  pub channels : AllReported r.channels
  pub counted : length r.samples ≡ length r.channels
  pub long : ℕ
  pub sized : SamplesSized r.channels r.sequences long r.samples
  pub bits : (c n : ℕ) → c < length r.channels → n < length (get_or r.samples c []) → get_or (get_or r.samples c []) n 0 < 256 ^ width_in (channel_in c r.channels)

abbrev pub AllRecorded : List Recorded → Type 0
AllRecorded [] = Unit {0}
AllRecorded (r ∷ rs) = GoodRecorded r × AllRecorded rs
