-- The canonical file of a recording (document 01, "The canonical file").
use Rattle.std.specs.Prelude.{List, [], ◌∷◌, ◌++◌, ℕ, min, max, ltb, length, get_or}
use Rattle.octets.specs.Pick.{pick}
use Rattle.stores.specs.Number.{be}
use Rattle.settings.specs.declared.Settings.{Settings}
use Rattle.layout.specs.Frame.{width_in, channel_in}
use Rattle.laid.specs.Laid.{laid}
use Rattle.groups.specs.Item.{item_octets}
use Rattle.groups.specs.Head.{head_items}
use Rattle.groups.specs.Group.{groups_octets}
use Rattle.canonical.specs.Recording.{Recorded}

-- The octets of a recorded sample, the highest first; none where it is not there.
unfoldable pub octets_in : List Settings → List (List ℕ) → ℕ → ℕ → List ℕ
octets_in cs samples channel n =
    let bits = get_or samples channel [] in
    pick (ltb n (length bits)) (be (width_in (channel_in channel cs)) (get_or bits n 0)) []

-- The most samples that a channel has there.
unfoldable pub longest : List (List ℕ) → ℕ
longest [] = 0
longest (bits ∷ rest) = max (length bits) (longest rest)

-- The samples there, big-endian, in file order. The sequence of a sample is at most its number, so that no later sequence has any: what is laid out depends on
-- the samples there, not on the declared sequences.
unfoldable pub waveform_of : Recorded → List ℕ
waveform_of r = laid (octets_in r.channels r.samples) r.channels (min r.sequences (longest r.samples))

-- A frame: 05, 06 and 07; a group for each channel in order; then 1E and the samples.
unfoldable pub frame_octets : Recorded → List ℕ
frame_octets r =
    head_items (length r.channels) r.sequences r.start
    ++ (groups_octets 0 r.channels
    ++ item_octets 0x1E (waveform_of r))

-- The frames, one after the other.
unfoldable pub frames_octets : List Recorded → List ℕ
frames_octets [] = []
frames_octets (r ∷ rs) = frame_octets r ++ frames_octets rs

-- No frames: no octets. Otherwise 01 01 00, then each frame.
unfoldable pub canonical : List Recorded → List ℕ
canonical [] = []
canonical (r ∷ rs) = 0x01 ∷ 0x01 ∷ 0x00 ∷ frames_octets (r ∷ rs)
