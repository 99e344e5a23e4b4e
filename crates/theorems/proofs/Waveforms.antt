-- The waveforms of an accepted file.
--     PartOfFile, waveform_part    a frame's waveform is a part of the file
--     waveforms_apart    the waveform of a frame ends before that of a later frame begins
-- Assumes nothing.
use Prim.Native.Nat.{ℕ, ◌≤◌, ◌<◌}
use mathlib.Core.Path.{◌≡◌, sym}
use mathlib.Core.List.{List}
use lib.ListN.{length, take, drop}
use Rattle.layout.specs.Frame.{Frame}
use Rattle.verdict.specs.Verdict.{accepted, verdict}
use Rattle.reader.proofs.Ordered.{waveform_end, accepted-lies, accepted_ordered}
use Rattle.theorems.proofs.Questions.{frame_number}

-- A frame's waveform is a part of the file, from the frame's place on.
pub record PartOfFile (s : List ℕ) (f : Frame) : Type 0 where
  pub inside : waveform_end f ≤ length s
  pub octets : take (length f.waveform) (drop f.place s) ≡ f.waveform

module _ (s : List ℕ) (fs : List Frame) (e : verdict s ≡ accepted fs) where
  pub waveform_part : (i : ℕ) → i < length fs → PartOfFile s (frame_number fs i)
  waveform_part i h = let l = accepted-lies s fs e i h in record { inside = l.inside; octets = sym l.octets }

  pub waveforms_apart : (i j : ℕ) → i < j → j < length fs → waveform_end (frame_number fs i) ≤ (frame_number fs j).place
  waveforms_apart = accepted_ordered s fs e
