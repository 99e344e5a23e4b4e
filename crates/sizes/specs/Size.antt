-- How many octets the parts of a frame take in the canonical file (document 01, "The canonical file").
use Rattle.std.specs.Prelude.{ℕ, ◌+◌, eqb, ltb, length}
use Rattle.octets.specs.Pick.{pick}
use Rattle.stores.specs.Length.{shortest}
use Rattle.values.specs.declared.Bits.{Bits}

-- A shortest channel number below 16,384: one octet or two.
abbrev pub channel_size : ℕ → ℕ
channel_size k = pick (ltb k 128) 1 2

-- A null's value: the sample width, or nothing where there is none.
abbrev pub null_size : ℕ → Bits → ℕ
null_size width null = pick (eqb null.width 0) 0 width

-- The items of a group: 04 takes 6 octets, 08 and 09 four each, 0A three, 0B and 0C eight each, 0D and 12 two and their values.
abbrev pub content_size : ℕ → Bits → ℕ
content_size width null = 37 + width + null_size width null

-- A group: tag, channel number, one length octet, and its items.
unfoldable pub group_size : ℕ → ℕ → Bits → ℕ
group_size k width null = 2 + channel_size k + content_size width null

-- 06 takes six octets, or two for 0 sequences.
abbrev pub sequences_size : ℕ → ℕ
sequences_size sequences = pick (eqb sequences 0) 2 6

-- A frame's head: 05 and 07 take six octets each, and 06.
unfoldable pub head_size : ℕ → ℕ
head_size sequences = 12 + sequences_size sequences

-- A frame: its head, the groups, and 1E with its length and the samples.
unfoldable pub frame_size : ℕ → ℕ → ℕ → ℕ
frame_size sequences groups waveform = head_size sequences + groups + (1 + length (shortest waveform) + waveform)
