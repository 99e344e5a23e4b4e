-- The octets of each sample of a waveform turned about: from one byte order to the other.
use Rattle.std.specs.Prelude.{List, [], ◌∷◌, ◌++◌, ◌≡◌, ℕ, zero, suc, ◌+◌, ◌<◌, length, drop}
use Rattle.runs.specs.Turned.{turned}
use Rattle.settings.specs.declared.Settings.{Settings}
use Rattle.layout.specs.Frame.{width_in, block_octets, sequence_octets, channel_in}

-- The samples of one sequence, each turned about.
unfoldable pub turned_sequence : List Settings → List ℕ → List ℕ
turned_sequence [] xs = []
turned_sequence (c ∷ cs) xs = turned (width_in c) c.block xs ++ turned_sequence cs (drop (block_octets c) xs)

-- The samples of m sequences, each turned about.
unfoldable pub turned_all : List Settings → ℕ → List ℕ → List ℕ
turned_all cs zero xs = []
turned_all cs (suc m) xs = turned_sequence cs xs ++ turned_all cs m (drop (sequence_octets cs) xs)

-- The samples of one sequence: the sum of the block lengths.
unfoldable pub sequence_samples : List Settings → ℕ
sequence_samples [] = 0
sequence_samples (c ∷ cs) = c.block + sequence_samples cs

-- All channels have the width v.
abbrev pub Even : ℕ → List Settings → Type 0
Even v cs = (i : ℕ) → i < length cs → width_in (channel_in i cs) ≡ v
