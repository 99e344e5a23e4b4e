-- All samples there of a frame, channel after channel, by the words of the channels' records.
use Rattle.std.specs.Prelude.{Bool, true, List, [], ◌∷◌, ◌++◌, ℕ, zero, suc, length, get_or, take}
use Rattle.octets.specs.Pick.{pick, both}
use Rattle.heads.specs.declared.Fault.TheVariants.{NoFrame}
use Rattle.heads.specs.Answer.{Answer, answered, refused_as}
use Rattle.dated.specs.Dated.{zero_dated}
use Rattle.words.specs.Words.{records_in, below_in}
use Rattle.spread.specs.declared.Spread.{Spread}
use Rattle.spread.specs.declared.Sequences.{Sequences}
use Rattle.spread.specs.Spread.{there_spread, lies_spread, bits_spread}
use Rattle.strides.specs.Laying.{bits_from}

-- Where the samples of a channel of a frame lie.
abbrev pub spread_at : List ℕ → Sequences → ℕ → Spread
spread_at t q k =
    let c = (get_or (records_in t) k zero_dated).settings in
    record {
      sequences = q.count;
      little = q.little;
      place = q.place;
      long = q.long;
      octets = q.octets;
      below = below_in t k;
      block = c.block;
      datatype = c.datatype;
    }

-- The n channels from number k on.
unfoldable pub spreads_from : List ℕ → Sequences → ℕ → ℕ → List Spread
spreads_from t q k zero = []
spreads_from t q k (suc n) = spread_at t q k ∷ spreads_from t q (suc k) n

-- The samples there of every channel lie in a file of `size` octets.
unfoldable pub all_lie : ℕ → List Spread → Bool
all_lie size [] = true
all_lie size (x ∷ xs) = both (lies_spread size x) (all_lie size xs)

-- The bits of all samples there of channels, those of one channel after those of another.
unfoldable pub swept_bits : List ℕ → List Spread → List ℕ
swept_bits s [] = []
swept_bits s (x ∷ xs) = bits_from (bits_spread s x) 0 (there_spread x) ++ swept_bits s xs

-- The answer: as many of these bits as there is room for, or are there; 20 where the samples of a channel do not lie in the file.
unfoldable pub swept_of : List ℕ → ℕ → List Spread → Answer (List ℕ)
swept_of s room xs = pick (all_lie (length s) xs) (answered (take room (swept_bits s xs))) (refused_as NoFrame 0)
