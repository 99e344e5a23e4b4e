-- Which samples of a frame are there (document 02, request 2): "A sample whose octets are not all inside its own frame's waveform is not there". A frame declares
-- its sequences; its waveform has `long` octets, and may end before they do.
use Rattle.std.specs.Prelude.{List, [], ◌∷◌, Bool, ◌≡◌, ℕ, ◌+◌, ◌-◌, ◌*◌, ◌/◌, ◌%◌, ◌≤◌, ◌<◌, min, leb, length}
use Rattle.octets.specs.Pick.{pick}
use Rattle.settings.specs.declared.Settings.{Settings}
use Rattle.layout.specs.Frame.{Frame, width_in, block_octets, sequence_octets, octets_below, channel_in, offset_of}
use Rattle.laid.specs.Laid.{Named}

-- ---- one sample

-- Where a sample ends, from the waveform's first octet.
abbrev pub end_of : List Settings → ℕ → ℕ → ℕ
end_of cs channel n = offset_of cs channel n + width_in (channel_in channel cs)

-- Its octets are all inside the waveform.
unfoldable pub is_there : List Settings → ℕ → ℕ → ℕ → Bool
is_there cs long channel n = leb (end_of cs channel n) long

-- ---- how many

-- The samples there of a channel that has a block of so many samples of `width` octets in each sequence of `octets` octets, behind the `below` octets of lower
-- channels: its blocks in whole sequences, and in the sequence that is cut off the samples that end in it; no more than are declared.
unfoldable pub count_there : ℕ → ℕ → ℕ → ℕ → ℕ → ℕ → ℕ
count_there sequences block width octets below long =
    min (sequences * block) (long / octets * block + min block ((long % octets - below) / width))

-- The same of a channel of a frame.
unfoldable pub there_of : List Settings → ℕ → ℕ → ℕ → ℕ
there_of cs sequences long channel =
    let c = channel_in channel cs in
    count_there sequences c.block (width_in c) (sequence_octets cs) (octets_below channel cs) long

unfoldable pub there_in : ℕ → Frame → ℕ
there_in channel f = there_of f.channels f.sequences (length f.waveform) channel

-- ---- their octets

-- The octets of the samples that end in the first x octets of a sequence: whole blocks, and the whole samples of the block that is cut off.
unfoldable pub part_octets : List Settings → ℕ → ℕ
part_octets [] x = 0
part_octets (c ∷ cs) x =
    pick (leb (block_octets c) x) (block_octets c + part_octets cs (x - block_octets c)) (x / width_in c * width_in c)

-- The octets of the samples there: those of whole sequences, and those of the sequence that is cut off; no more than are declared. What follows them in the
-- waveform is surplus.
unfoldable pub there_octets : List Settings → ℕ → ℕ → ℕ
there_octets cs sequences long =
    let octets = sequence_octets cs in
    min (sequences * octets) (long / octets * octets + part_octets cs (long % octets))

unfoldable pub octets_there : Frame → ℕ
octets_there f = there_octets f.channels f.sequences (length f.waveform)

-- The octets of a sample that is cut off, of the first x octets of a sequence: what `part_octets` leaves of them.
unfoldable pub partial_octets : List Settings → ℕ → ℕ
partial_octets [] x = x
partial_octets (c ∷ cs) x = pick (leb (block_octets c) x) (partial_octets cs (x - block_octets c)) (x % width_in c)

-- ---- what holds of them

-- Each channel's samples have octets.
abbrev pub Wide : List Settings → Type 0
Wide cs = (c : ℕ) → c < length cs → 0 < width_in (channel_in c cs)

-- A sample of the frame that is there.
pub record There (cs : List Settings) (sequences long c n : ℕ) : Type 0 where
  pub named : Named cs sequences c n
  pub inside : end_of cs c n ≤ long

-- Octet o of the waveform is octet i of the sample that channel and n name, and that sample is there.
pub record Held (cs : List Settings) (sequences long o : ℕ) : Type 0 where
  pub channel : ℕ
  pub n : ℕ
  pub i : ℕ
  pub there : There cs sequences long channel n
  pub inside : i < width_in (channel_in channel cs)
  pub place : offset_of cs channel n + i ≡ o
