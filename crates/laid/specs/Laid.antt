-- Where the samples of a waveform lie, and a waveform laid out from its samples (document 01, "Frames and samples").
use Rattle.std.specs.Prelude.{List, [], ◌∷◌, ◌++◌, ◌≡◌, ℕ, zero, suc, ◌+◌, ◌*◌, ◌<◌, length, take, drop}
use Rattle.octets.specs.Number.{number_of}
use Rattle.settings.specs.declared.Settings.{Settings}
use Rattle.layout.specs.Frame.{Frame, width_in, channel_in, offset_of}

-- Channel c and number n name a sample: the channel is one of the frame's, and the number is below its count of samples.
pub record Named (cs : List Settings) (sequences c n : ℕ) : Type 0 where
  pub channel : c < length cs
  pub number : n < sequences * (channel_in c cs).block

-- Octet o of the waveform is octet i of the sample that channel and n name.
pub record Covered (cs : List Settings) (sequences o : ℕ) : Type 0 where
  pub channel : ℕ
  pub n : ℕ
  pub i : ℕ
  pub named : Named cs sequences channel n
  pub inside : i < width_in (channel_in channel cs)
  pub place : offset_of cs channel n + i ≡ o

-- What the k samples of a channel from number n on give, where g gives it of each by channel and number: their octets, or what else is told of them.
unfoldable pub block : {A : Type 0} → (ℕ → ℕ → List A) → ℕ → ℕ → ℕ → List A
block g channel n zero = []
block g channel n (suc k) = g channel n ++ block g channel (suc n) k

-- The same of sequence q: a block of each channel, in order.
unfoldable pub sequence : {A : Type 0} → (ℕ → ℕ → List A) → ℕ → List Settings → ℕ → List A
sequence g channel [] q = []
sequence g channel (c ∷ cs) q = block g channel (q * c.block) c.block ++ sequence g (suc channel) cs q

-- The same of m sequences from q on.
unfoldable pub laid_from : {A : Type 0} → (ℕ → ℕ → List A) → List Settings → ℕ → ℕ → List A
laid_from g cs q zero = []
laid_from g cs q (suc m) = sequence g 0 cs q ++ laid_from g cs (suc q) m

-- The samples of a waveform in file order.
unfoldable pub laid : {A : Type 0} → (ℕ → ℕ → List A) → List Settings → ℕ → List A
laid g cs sequences = laid_from g cs 0 sequences

-- A sample's octets in a waveform.
abbrev pub sample_octets : List Settings → List ℕ → ℕ → ℕ → List ℕ
sample_octets cs w channel n = take (width_in (channel_in channel cs)) (drop (offset_of cs channel n) w)

-- The bits of a sample of a frame, by channel and number: its octets in the waveform, taken highest first, by the byte order that stands there.
unfoldable pub sample_bits : Frame → ℕ → ℕ → ℕ
sample_bits f channel n = number_of f.little (sample_octets f.channels f.waveform channel n)
