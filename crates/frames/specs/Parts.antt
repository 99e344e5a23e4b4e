-- A frame of the canonical file (document 01, "The canonical file"), in the parts in which it is written.
use Rattle.std.specs.Prelude.{List, [], ◌∷◌, ◌++◌, map, Bool, true, false, ℕ, ◌≤◌, leb, length, take, ℤ}
use Rattle.standing.specs.Standing.{octets_limit}
use Rattle.octets.specs.Pick.{pick}
use Rattle.stores.specs.Length.{shortest}
use Rattle.settings.specs.declared.Settings.{Settings}
use Rattle.settings.specs.Settings.{channel_limit}
use Rattle.words.specs.Words.{records_in}
use Rattle.layout.specs.Frame.{reported}
use Rattle.there.specs.There.{there_octets}
use Rattle.there.specs.Turned.{turned_there}
use Rattle.groups.specs.Head.{head_items}
use Rattle.groups.specs.Group.{groups_octets}

-- So many channels may a frame have, and so many records are in the words.
pub record Few (count : ℕ) (u : List ℕ) : Type 0 where
  pub most : count ≤ channel_limit
  pub there : count ≤ length (records_in u)

-- The samples in the first octets of a waveform, big-endian: as they stand where the byte order is big, else each turned round.
abbrev pub samples_turned : Bool → List Settings → ℕ → List ℕ → List ℕ
samples_turned false cs octets x = take octets x
samples_turned true cs octets x = turned_there cs octets x

-- 1E and its length, ahead of so many octets of samples.
abbrev pub waveform_head : ℕ → List ℕ
waveform_head octets = 0x1E ∷ shortest octets

-- 05, 06 and 07; a group for each channel in order; then 1E, its length and the samples' octets.
abbrev pub frame_parts : ℤ → ℕ → List Settings → List ℕ → List ℕ
frame_parts start sequences cs samples =
    ((head_items (length cs) sequences start ++ groups_octets 0 (map reported cs)) ++ waveform_head (length samples)) ++ samples

-- The frame of a waveform x, with its samples there, if these are no more octets than a file may have; else no octets.
unfoldable pub frame_given : ℤ → Bool → ℕ → List Settings → List ℕ → List ℕ
frame_given start little sequences cs x =
    let octets = there_octets cs sequences (length x) in
    pick (leb octets octets_limit) (frame_parts start sequences cs (samples_turned little cs octets x)) []
