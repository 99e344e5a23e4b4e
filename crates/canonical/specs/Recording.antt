-- The recording that an accepted file holds (document 01, "Frames and samples").
use Rattle.std.specs.Prelude.{List, [], ◌∷◌, map, ℕ, zero, suc, ℤ, length}
use Rattle.settings.specs.declared.Settings.{Settings}
use Rattle.layout.specs.Frame.{Frame, reported}
use Rattle.laid.specs.Laid.{sample_bits}
use Rattle.there.specs.There.{there_in}

-- A frame of a recording: start pointer and sequences; the channels' attributes, as many as the channel count; and for each channel the bits
-- of its samples that are there, by number: the others are declared and lacking.
pub record Recorded : Type 0 where
  pub start : ℤ
  pub sequences : ℕ
  pub channels : List Settings
  pub samples : List (List ℕ)

-- The values of g at 0 to k - 1.
unfoldable pub tabulate : {A : Type 0} → ℕ → (ℕ → A) → List A
tabulate zero g = []
tabulate (suc k) g = g 0 ∷ tabulate k (λ i. g (suc i))

-- A frame as the recording has it.
unfoldable pub recorded_frame : Frame → Recorded
recorded_frame f =
    record {
      start = f.start;
      sequences = f.sequences;
      channels = map reported f.channels;
      samples = tabulate (length f.channels) (λ channel. tabulate (there_in channel f) (sample_bits f channel));
    }

-- A recording is the list of frames.
unfoldable pub recording : List Frame → List Recorded
recording fs = map recorded_frame fs
