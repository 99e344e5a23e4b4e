-- What the functions of a walk hand out.
use Rattle.std.specs.Prelude.{List, ℕ, ℤ, pos, replicate}
use Rattle.heads.specs.Answer.{Answer}
use Rattle.view.specs.declared.View.{View}
use Rattle.reader.specs.Answer.{attributes_seen}
use Rattle.walk.specs.declared.Waveform.{Waveform}
use Rattle.numbers.specs.Numbers.{numbers_of, bit_pair_of, frame_numbers, frame_numbers_of}
use Rattle.outputs.specs.Outputs.{Outputs, handed_out, AttributesOut, attributes_values, zero_attributes}

-- ---- frames

pub record FrameOut : Type 0 where
  pub start : ℤ
  pub numbers : List ℕ

abbrev pub frame_values : ℤ → List ℕ → FrameOut
frame_values start numbers = record { start = start; numbers = numbers }

abbrev pub no_frame_values : FrameOut
no_frame_values = frame_values (pos 0) (replicate frame_numbers 0)

-- A frame, and no place.
abbrev pub frame_out : Answer Waveform → Outputs FrameOut
frame_out a = handed_out (λ x. 0) (λ x. frame_values x.start (frame_numbers_of x)) no_frame_values a

-- ---- channels

pub record ChannelOut : Type 0 where
  pub attributes : AttributesOut
  pub below : ℕ

abbrev pub channel_values : List ℤ → List ℕ → ℕ → ChannelOut
channel_values numbers bits below = record { attributes = attributes_values numbers bits; below = below }

abbrev pub zero_channel : ChannelOut
zero_channel = record { attributes = zero_attributes; below = 0 }

-- A channel that is seen: its attributes, and the octets of a sequence below it.
abbrev pub channel_seen : View → ChannelOut
channel_seen v = channel_values (numbers_of (attributes_seen v)) (bit_pair_of (attributes_seen v)) v.below

-- A channel, and no place.
abbrev pub channel_out : Answer View → Outputs ChannelOut
channel_out a = handed_out (λ v. 0) channel_seen zero_channel a
