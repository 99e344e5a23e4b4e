-- The octets of each sample that is there turned about: those of whole sequences, and those of the sequence that is cut off.
use Rattle.std.specs.Prelude.{List, [], ◌∷◌, ◌++◌, ℕ, ◌-◌, ◌*◌, ◌/◌, ◌%◌, leb, drop}
use Rattle.octets.specs.Pick.{pick}
use Rattle.runs.specs.Turned.{turned}
use Rattle.settings.specs.declared.Settings.{Settings}
use Rattle.layout.specs.Frame.{width_in, block_octets, sequence_octets}
use Rattle.laid.specs.Turned.{turned_all}

-- The samples in the first `rest` octets of a sequence, each turned about.
unfoldable pub turned_part : List Settings → ℕ → List ℕ → List ℕ
turned_part [] rest xs = []
turned_part (c ∷ cs) rest xs =
    pick (leb (block_octets c) rest)
    (turned (width_in c) c.block xs ++ turned_part cs (rest - block_octets c) (drop (block_octets c) xs))
    (turned (width_in c) (rest / width_in c) xs)

-- The samples in the first `octets` octets of a waveform, each turned about.
unfoldable pub turned_there : List Settings → ℕ → List ℕ → List ℕ
turned_there cs octets xs =
    let G = sequence_octets cs in
    turned_all cs (octets / G) xs ++ turned_part cs (octets % G) (drop (octets / G * G) xs)
