-- Frames that are made (document 02, request 1): which settings are in the table of attributes, when a frame is refused, a file of made frames, and what
-- a recording hands back to the maker.
use Rattle.std.specs.Prelude.{◌≡◌, ◌↔◌, ◌⊎◌, false, List, [], ◌∷◌, ◌++◌, map, ℕ, ◌+◌, ◌*◌, ◌^◌, ◌≤◌, ◌<◌, ℤ, pos, negsuc, length, get_or, take, drop, ◌≤ℤ◌}
use Rattle.heads.specs.declared.Fault.{Fault}
use Rattle.octets.specs.Number.{Octets, number_of}
use Rattle.heads.specs.declared.Fault.TheVariants.{NoRoom, SettingRange, SamplesLength}
use Rattle.heads.specs.Answer.{Answer, answered, refused_as}
use Rattle.settings.specs.declared.Scale.{Scale}
use Rattle.settings.specs.declared.Settings.{Settings}
use Rattle.settings.specs.Settings.{channel_limit, block_limit, last_data_type, last_interval_unit, last_resolution_unit}
use Rattle.layout.specs.Frame.{width_in, sequence_octets, channel_in, offset_of}
use Rattle.laid.specs.Laid.{Named}
use Rattle.standing.specs.Standing.{octets_limit}
use Rattle.verdict.specs.Verdict.{check_of}
use Rattle.canonical.specs.Recording.{Recorded, tabulate}
use Rattle.canonical.specs.Canonical.{waveform_of, frame_octets}
use Rattle.canonical.specs.Write.{recording_of, canonical_of}
use Rattle.numbers.specs.Numbers.{attribute_numbers, numbers_of, bit_pair_of}
use Rattle.maker.specs.Given.{GivenScale, Given, bit_numbers, given_at, last_code, last_mantissa, width_given}
use Rattle.maker.specs.Make.{Making, making, last_sequences, channels_in, record_made, order_octets, made_in}
use Rattle.theorems.specs.Told.{attributes_recorded, samples_recorded, declared_recorded, frame_recorded}

-- ---- the table of attributes

-- From `low` to `high`.
abbrev pub Between : ℤ → ℤ → ℤ → Type 0
Between low high z = (low ≤ℤ z) × (z ≤ℤ high)

-- A unit up to the last one, an exponent of signed 8 bits, and a mantissa from 1 on.
pub record ScaleAllowed (last : ℕ) (x : GivenScale) : Type 0 where
  pub unit : Between (pos 0) (pos last) x.unit
  pub exponent : Between (negsuc 127) (pos 127) x.exponent
  pub mantissa : Between (pos 1) (pos last_mantissa) x.mantissa

-- The settings of a channel. A null is looked at where its width is not 0.
pub record ChannelAllowed (g : Given) : Type 0 where
  pub block : Between (pos 1) (pos block_limit) g.block
  pub class : Between (pos 0) (pos last_code) g.class
  pub lead : Between (pos 0) (pos last_code) g.lead
  pub datatype : Between (pos 0) (pos last_data_type) g.datatype
  pub interval : ScaleAllowed last_interval_unit g.interval
  pub resolution : ScaleAllowed last_resolution_unit g.resolution
  pub offset : g.offset < 256 ^ width_given g
  pub null : (g.null_width ≡ pos 0 → ⊥) → g.null < 256 ^ width_given g

-- The settings of a frame, with as many rows as channels.
pub record Allowed (m : Making) : Type 0 where
  pub start : Between (negsuc 2147483647) (pos 2147483647) m.start
  pub sequences : m.sequences ≤ last_sequences
  pub some : 1 ≤ m.channels
  pub few : m.channels ≤ channel_limit
  pub numbers : length m.numbers ≡ m.channels * attribute_numbers
  pub bits : length m.bits ≡ m.channels * bit_numbers
  pub each : (c : ℕ) → c < m.channels → ChannelAllowed (given_at m.numbers m.bits c)

-- ---- exactly when

-- The sample octets are exactly sequences times G.
abbrev pub SamplesExact : Making → Type 0
SamplesExact m = length m.samples ≡ m.sequences * sequence_octets (channels_in m)

-- The frame passes the buffer, or with 01 01 00 before it 15's limit.
abbrev pub Passes : List ℕ → ℕ → Type 0
Passes octets room = (room < length octets) ⊎ (octets_limit < order_octets + length octets)

-- "24 a setting outside 01's table or bits wider than the sample, 25 sample octets not exactly sequences times G, then 23 where the frame passes the buffer, or
-- with 01 01 00 before it 15's limit." Each is given exactly when its condition holds and none ahead of it does, at place 0; else the frame is made.
pub record MadeExactly (m : Making) (room : ℕ) (a : Answer (List ℕ)) : Type 0 where
  pub setting : (a ≡ refused_as SettingRange 0) ↔ (Allowed m → ⊥)
  pub samples : (a ≡ refused_as SamplesLength 0) ↔ (Allowed m × (SamplesExact m → ⊥))
  pub long : (a ≡ refused_as NoRoom 0) ↔ (Allowed m × SamplesExact m × Passes (frame_octets (record_made m)) room)
  pub made : (octets : List ℕ) → (a ≡ answered octets) ↔ (Allowed m × SamplesExact m × (Passes octets room → ⊥) × (octets ≡ frame_octets (record_made m)))
  pub others : (fault : Fault) (place : ℕ) → a ≡ refused_as fault place → ((fault ≡ SettingRange) ⊎ ((fault ≡ SamplesLength) ⊎ (fault ≡ NoRoom))) × (place ≡ 0)

-- ---- a file of made frames

-- A frame that is made, in a buffer of some length. Samples are octets.
pub record MadeFrame (m : Making) (octets : List ℕ) : Type 0 where
  pub samples : Octets m.samples
  pub room : ℕ
  pub made : made_in room m ≡ answered octets

-- Frames that are made, and the octets of each.
abbrev pub AllMade : List Making → List (List ℕ) → Type 0
AllMade [] [] = Unit {0}
AllMade (m ∷ ms) (o ∷ os) = MadeFrame m o × AllMade ms os
AllMade [] (o ∷ os) = ⊥
AllMade (m ∷ ms) [] = ⊥

-- Lists one behind the other.
abbrev pub concatenated : {A : Type 0} → List (List A) → List A
concatenated [] = []
concatenated (x ∷ xs) = x ++ concatenated xs

-- "A file is 01 01 00 and 1 to 4,096 frames, within 15's limit": 01 01 00 and frames. How many, and the limit, stand where files are spoken of.
abbrev pub file_of : List (List ℕ) → List ℕ
file_of os = 0x01 ∷ 0x01 ∷ 0x00 ∷ concatenated os

-- ---- what went in

-- A unit, an exponent and a mantissa, as they were handed over.
pub record ScaleSays (x : Scale) (g : GivenScale) : Type 0 where
  pub unit : pos x.unit ≡ g.unit
  pub exponent : x.exponent ≡ g.exponent
  pub mantissa : x.mantissa ≡ g.mantissa

-- A channel's settings, as they were handed over: a null where its width was not 0, and else none.
pub record ChannelSays (c : Settings) (g : Given) : Type 0 where
  pub block : pos c.block ≡ g.block
  pub class : pos c.class ≡ g.class
  pub lead : pos c.lead ≡ g.lead
  pub datatype : pos c.datatype ≡ g.datatype
  pub interval : ScaleSays c.interval g.interval
  pub resolution : ScaleSays c.resolution g.resolution
  pub offset_width : c.offset.width ≡ width_in c
  pub offset : c.offset.bits ≡ g.offset
  pub none : g.null_width ≡ pos 0 → c.null.width ≡ 0
  pub null : (g.null_width ≡ pos 0 → ⊥) → (c.null.width ≡ width_in c) × (c.null.bits ≡ g.null)

-- All declared samples of a frame of a recording are there.
abbrev pub AllThere : Recorded → Type 0
AllThere r = (c : ℕ) → c < length r.channels → length (samples_recorded c r) ≡ declared_recorded c r

-- A frame of a recording is exactly what went in: each setting, and each bit of each sample.
pub record WentIn (m : Making) (r : Recorded) : Type 0 where
  pub start : r.start ≡ m.start
  pub sequences : r.sequences ≡ m.sequences
  pub channels : length r.channels ≡ m.channels
  pub settings : (c : ℕ) → c < m.channels → ChannelSays (channel_in c r.channels) (given_at m.numbers m.bits c)
  pub there : AllThere r
  -- The bits of sample n of channel c are those of the octets that were handed over where document 01 places it.
  pub bits : (c n : ℕ) → Named r.channels r.sequences c n
      → get_or (get_or r.samples c []) n 0 ≡ number_of false (take (width_in (channel_in c r.channels)) (drop (offset_of r.channels c n) m.samples))
  -- No octet is left out: the canonical waveform is what was handed over.
  pub waveform : waveform_of r ≡ m.samples

-- What is read past the last of several; no answer depends on it.
abbrev pub no_making : Making
no_making = making (pos 0) 0 0 [] [] []

-- The file s of made frames reads back: it is accepted, its recording is exactly what went in, frame by frame, and it is its own canonical file.
pub record ReadsBack (ms : List Making) (s : List ℕ) : Type 0 where
  pub check : check_of s ≡ answered (length ms)
  pub recorded : recording_of s ≡ map record_made ms
  pub frames : (i : ℕ) → i < length ms → WentIn (get_or ms i no_making) (frame_recorded (recording_of s) i)
  pub own : canonical_of s ≡ s

-- ---- what a recording hands back

-- A row for each channel of a frame of a recording, as the attributes are told.
abbrev pub rows_of : Recorded → List ℤ
rows_of r = concatenated (tabulate (length r.channels) (λ c. numbers_of (attributes_recorded c r)))

-- And of its offset's and null's bits.
abbrev pub bit_rows_of : Recorded → List ℕ
bit_rows_of r = concatenated (tabulate (length r.channels) (λ c. bit_pair_of (attributes_recorded c r)))

-- What is handed to the maker of a frame's recorded settings and sample bits.
abbrev pub making_of : Recorded → Making
making_of r = making r.start r.sequences (length r.channels) (rows_of r) (bit_rows_of r) (waveform_of r)

-- The canonical file of the accepted file s is 01 01 00 and its frames, piece by piece; each whose declared samples are all there is what the maker makes of its
-- recording, and of one that lacks samples the maker makes none: 25.
pub record MadeAgain (s : List ℕ) : Type 0 where
  pub file : 0 < length (recording_of s) → canonical_of s ≡ file_of (map frame_octets (recording_of s))
  pub frames : (i : ℕ) → i < length (recording_of s) → AllThere (frame_recorded (recording_of s) i) → (room : ℕ) → length (frame_octets (frame_recorded (recording_of s) i)) ≤ room
      → made_in room (making_of (frame_recorded (recording_of s) i)) ≡ answered (frame_octets (frame_recorded (recording_of s) i))
  pub lacking : (i : ℕ) → i < length (recording_of s) → (AllThere (frame_recorded (recording_of s) i) → ⊥) → (room : ℕ)
      → made_in room (making_of (frame_recorded (recording_of s) i)) ≡ refused_as SamplesLength 0
