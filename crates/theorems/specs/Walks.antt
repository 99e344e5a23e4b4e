-- Calls of the functions for C that walk over a file.
use Rattle.std.specs.Prelude.{◌≡◌, List, [], ◌∷◌, ◌++◌, ℕ, zero, suc, length, take}
use Rattle.heads.specs.Answer.{Answer, answered, map_answer}
use Rattle.layout.specs.Frame.{Frame, sequence_octets}
use Rattle.there.specs.There.{there_in}
use Rattle.laid.specs.Laid.{sample_bits}
use Rattle.strides.specs.Laying.{bits_from}
use Rattle.verdict.specs.Verdict.{verdict}
use Rattle.reader.specs.Answer.{asked, attributes_seen, attributes_of, seen_of}
use Rattle.bulk.specs.Samples.{there_at, read_of, values_of}
use Rattle.walking.specs.Words.{walk_words}
use Rattle.walking.specs.Steps.{Opened}
use Rattle.walking.specs.Views.{view_in}
use Rattle.sweep.specs.Sweep.{sweep_in}
use Rattle.numbers.specs.Numbers.{flag_number}
use Rattle.outputs.specs.Outputs.{Outputs}
use Rattle.outputs.specs.Walks.{FrameOut, frame_values}
use Rattle.tour.specs.Tour.{walk_there, walk_read, walk_values}
use Rattle.mfer.specs.Walks.{WalkNext}

-- The words that a walk over a file s is left in by mfer_walk_open, whatever they held, and then by n calls of mfer_walk_next, each of which handed a frame
-- out.
pub data Walks (s : List ℕ) : ℕ → List ℕ → Type 0 where
  opened : {u v : List ℕ} → length u ≡ walk_words → Opened s u v → Walks s zero v
  stepped : {n : ℕ} {u v : List ℕ} {out : Outputs FrameOut} → Walks s n u → WalkNext s u out v → out.refusal ≡ 0 → Walks s (suc n) v

-- The bits of all samples there of the n channels of a frame from number k on, those of one channel after those of another.
unfoldable pub whole_from : Frame → ℕ → ℕ → List ℕ
whole_from f k zero = []
whole_from f k (suc n) = bits_from (sample_bits f k) 0 (there_in k f) ++ whole_from f (suc k) n

-- All samples there of a frame, as many as there is room for.
abbrev pub whole_in : ℕ → Frame → Answer (List ℕ)
whole_in room f = answered (take room (whole_from f 0 (length f.channels)))

-- What mfer_walk_next hands out of a frame: its start pointer, its channels, sequences and byte order, the place and the length of its waveform, and the octets of a
-- sequence.
abbrev pub frame_shown : Frame → FrameOut
frame_shown f =
    frame_values f.start (length f.channels ∷ f.sequences ∷ flag_number f.little ∷ f.place ∷ length f.waveform ∷ sequence_octets f.channels ∷ [])

-- The words tell of frame i what the questions answer, refusals too: each channel, its attributes, how many of its samples are there, and these as bits and as
-- values; and all samples there of all its channels.
pub record Tells (s : List ℕ) (i : ℕ) (w : List ℕ) : Type 0 where
  pub channel : (c : ℕ) → view_in w c ≡ seen_of s i c
  pub attributes : (c : ℕ) → map_answer attributes_seen (view_in w c) ≡ attributes_of s i c
  pub there : (c : ℕ) → walk_there w c ≡ there_at s i c
  pub samples : (c first room : ℕ) → walk_read s w c first room ≡ read_of s i c first room
  pub values : (c first room : ℕ) → walk_values s w c first room ≡ values_of s i c first room
  pub whole : (room : ℕ) → sweep_in s w room ≡ asked (whole_in room) i 0 (verdict s)
