-- A frame made of settings and samples (document 02, request 1): what is answered, and what is left in the buffer.
use Rattle.std.specs.Prelude.{◌≡◌, Bool, false, List, ℕ, ◌+◌, ◌*◌, eqb, leb, ℤ, length}
use Rattle.octets.specs.Number.{Octets}
use Rattle.octets.specs.Pick.{pick, both}
use Rattle.heads.specs.declared.Fault.TheVariants.{NoRoom, SettingRange, SamplesLength}
use Rattle.heads.specs.Answer.{Answer, answered, refused_as, map_answer, left_by}
use Rattle.settings.specs.declared.Settings.{Settings}
use Rattle.settings.specs.Settings.{channel_limit}
use Rattle.layout.specs.Frame.{Frame, samples_octets}
use Rattle.standing.specs.Standing.{octets_limit}
use Rattle.framing.specs.Framing.{pointer_fits}
use Rattle.canonical.specs.Recording.{Recorded, recorded_frame}
use Rattle.canonical.specs.Canonical.{frame_octets}
use Rattle.numbers.specs.Numbers.{attribute_numbers}
use Rattle.maker.specs.Given.{bit_numbers, givens_in, all_in_table, channels_made}

-- What goes in: start pointer, sequences and channel count; a row of numbers and one of bits for each channel; and the samples, big-endian and in file order.
pub record Making : Type 0 where
  pub start : ℤ
  pub sequences : ℕ
  pub channels : ℕ
  pub numbers : List ℤ
  pub bits : List ℕ
  pub samples : List ℕ

-- The same of its parts, in the order in which they are handed over.
abbrev pub making : ℤ → ℕ → ℕ → List ℤ → List ℕ → List ℕ → Making
making start sequences channels numbers bits samples =
    record { start = start; sequences = sequences; channels = channels; numbers = numbers; bits = bits; samples = samples }

-- The last number that four octets hold: sequences.
abbrev pub last_sequences : ℕ
last_sequences = 4_294_967_295

-- Start pointer, sequences and channel count are in the table, and there are as many rows as channels.
unfoldable pub frame_in_table : ℤ → ℕ → ℕ → ℕ → ℕ → Bool
frame_in_table start sequences channels numbers bits =
    both (pointer_fits start)
    (both (leb sequences last_sequences)
    (both (leb 1 channels)
    (both (leb channels channel_limit)
    (both (eqb numbers (channels * attribute_numbers))
    (eqb bits (channels * bit_numbers))))))

-- Every setting is in the table.
unfoldable pub settings_fit : Making → Bool
settings_fit m =
    both (frame_in_table m.start m.sequences m.channels (length m.numbers) (length m.bits))
    (all_in_table (givens_in m.channels m.numbers m.bits))

-- The settings of the channels.
abbrev pub channels_in : Making → List Settings
channels_in m = channels_made m.channels m.numbers m.bits

-- The sample octets are exactly sequences times G.
unfoldable pub samples_fit : Making → Bool
samples_fit m = eqb (length m.samples) (samples_octets (channels_in m) m.sequences)

-- The frame that is made: the samples are its waveform, big-endian.
abbrev pub frame_made : Making → Frame
frame_made m =
    record { start = m.start; place = 0; little = false; sequences = m.sequences; channels = channels_in m; waveform = m.samples }

-- The frame of a recording that it is.
unfoldable pub record_made : Making → Recorded
record_made m = recorded_frame (frame_made m)

-- The octets that the file has before its first frame, 01 01 00.
abbrev pub order_octets : ℕ
order_octets = 3

-- The frame is no longer than there is room, nor the file than 15's limit with 01 01 00 before it.
unfoldable pub room_fits : ℕ → ℕ → Bool
room_fits long room = both (leb long room) (leb (order_octets + long) octets_limit)

-- What is made where there is room for so many octets: 24, then 25, then 23, else the frame as the canonical file has it.
unfoldable pub made_in : ℕ → Making → Answer (List ℕ)
made_in room m =
    let octets = frame_octets (record_made m) in
    pick (settings_fit m)
    (pick (samples_fit m)
    (pick (room_fits (length octets) room) (answered octets) (refused_as NoRoom 0))
    (refused_as SamplesLength 0))
    (refused_as SettingRange 0)

-- A call of the maker: what went in and what the buffer held, and then the answer and the buffer as the call leaves it. The samples are octets.
pub record Made (m : Making) (buffer : List ℕ) (answer : Answer ℕ) (left : List ℕ) : Type 0 where
  pub octets : Octets m.samples
  pub answers : answer ≡ map_answer length (made_in (length buffer) m)
  pub leaves : left ≡ left_by (made_in (length buffer) m) buffer
