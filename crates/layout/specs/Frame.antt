-- Frames and samples (document 01): how a waveform is laid out, and the place of a sample.
use Rattle.std.specs.Prelude.{ℕ, ◌+◌, ◌*◌, ◌/◌, ◌%◌, Bool, true, List, [], ◌∷◌, take, ℤ, ◌==◌, slice_index_or}
use Rattle.octets.specs.Pick.{pick, both, either}
use Rattle.values.specs.declared.Bits.{Bits}
use Rattle.values.specs.Sample.{width_of}
use Rattle.settings.specs.declared.Settings.{Settings}
use Rattle.settings.specs.declared.Change.TheVariants.{Offset}
use Rattle.settings.specs.Settings.{zero_settings, applied}

-- A frame: its start pointer, the place of its waveform's first octet, the byte order that stands there, its sequences, the settings
-- of its channels, and its waveform.
pub record Frame : Type 0 where
  pub start : ℤ
  pub place : ℕ
  pub little : Bool
  pub sequences : ℕ
  pub channels : List Settings
  pub waveform : List ℕ

-- Octets per sample of a channel.
abbrev pub width_in : Settings → ℕ
width_in c = width_of c.datatype

-- Block length times octets per sample.
unfoldable pub block_octets : Settings → ℕ
block_octets c = c.block * width_in c

-- G, the octets of one sequence: the sum over channels of block length times octets per sample.
unfoldable pub sequence_octets : List Settings → ℕ
sequence_octets [] = 0
sequence_octets (c ∷ cs) = block_octets c + sequence_octets cs

-- The octets that the samples of sequences take: each takes G.
abbrev pub samples_octets : List Settings → ℕ → ℕ
samples_octets cs sequences = sequences * sequence_octets cs

-- The block octets of all channels below one.
unfoldable pub octets_below : ℕ → List Settings → ℕ
octets_below channel cs = sequence_octets (take channel cs)

-- An offset not defined is zero bits of the sample's width.
unfoldable pub offset_bits : Settings → Bits
offset_bits c = pick (c.offset.width == 0) (record { width = width_in c; bits = 0 }) c.offset

-- The attributes of a channel as they are reported and recorded: an offset not defined is zero bits of the sample's width.
unfoldable pub reported : Settings → Settings
reported c = applied (Offset (offset_bits c)) c

-- Bits that are defined have the sample's width.
unfoldable pub width_agrees : ℕ → Bits → Bool
width_agrees width b = either (b.width == 0) (b.width == width)

-- A channel's offset and null have its sample width, where they are defined.
unfoldable pub channel_agrees : Settings → Bool
channel_agrees c = both (width_agrees (width_in c) c.offset) (width_agrees (width_in c) c.null)

-- The same for each of a frame's channels.
unfoldable pub all_agree : List Settings → Bool
all_agree [] = true
all_agree (c ∷ cs) = both (channel_agrees c) (all_agree cs)

-- The settings of a channel.
abbrev pub channel_in : ℕ → List Settings → Settings
channel_in channel cs = slice_index_or cs channel zero_settings

-- How many samples of a channel are declared: sequences times its block length.
unfoldable pub samples_of : ℕ → Frame → ℕ
samples_of channel f = f.sequences * (channel_in channel f.channels).block

-- (n div b) times G, plus the block octets of all lower channels, plus (n mod b) times w.
abbrev pub offset_by : Settings → ℕ → ℕ → ℕ → ℕ
offset_by c octets below n = n / c.block * octets + below + n % c.block * width_in c

-- Where sample n of a channel lies, from the waveform's first octet.
unfoldable pub offset_of : List Settings → ℕ → ℕ → ℕ
offset_of cs channel n = offset_by (channel_in channel cs) (sequence_octets cs) (octets_below channel cs) n

-- A sample's place counts from the file's first octet.
unfoldable pub place_of : ℕ → ℕ → Frame → ℕ
place_of channel n f = f.place + offset_of f.channels channel n
