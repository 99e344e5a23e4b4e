-- The records of channels, as they stand in words that a caller lends. None of it is a rule of document 01.
use Rattle.std.specs.Prelude.{◌≡◌, List, [], ◌∷◌, ◌⊎◌, ℕ, zero, suc, ◌+◌, ◌*◌, ◌/◌, ◌%◌, ◌≤◌, ◌<◌, length, get_or}
use Rattle.octets.specs.Number.{low_of, twos}
use Rattle.values.specs.declared.Bits.{Bits}
use Rattle.settings.specs.declared.Scale.{Scale}
use Rattle.settings.specs.declared.Settings.{Settings}
use Rattle.settings.specs.Settings.{channel_limit}
use Rattle.dated.specs.declared.Dated.{Dated}
use Rattle.dated.specs.Dated.{noted, held}
use Rattle.words.specs.declared.Sampling.{Sampling}

-- The words of a record: one for each of its numbers, and one for the octets of a sequence below its channel.
abbrev pub record_words : ℕ
record_words = 16

-- The numbers of a record.
abbrev pub record_numbers : ℕ
record_numbers = 15

-- The place of a record's time among its numbers.
abbrev pub time_word : ℕ
time_word = 14

-- The place behind them of the octets below its channel.
abbrev pub below_word : ℕ
below_word = 15

-- The words of a record for each channel that a frame may have.
abbrev pub table_words : ℕ
table_words = channel_limit * record_words

-- A unit, an exponent and a mantissa, of three words.
abbrev pub scale_by : (ℕ → ℕ) → ℕ → Scale
scale_by g a = record { unit = low_of 1 (g a); exponent = twos 1 (low_of 1 (g (a + 1))); mantissa = twos 4 (low_of 4 (g (a + 2))) }

-- A width and bits, of two words.
abbrev pub bits_by : (ℕ → ℕ) → ℕ → Bits
bits_by g a = record { width = low_of 1 (g a); bits = g (a + 1) }

-- The record of the words g 0 to g 14, one for each number. A number is that of the lowest octets of its word, so that any words are a record.
abbrev pub record_by : (ℕ → ℕ) → Dated
record_by g =
    noted (low_of 4 (g time_word))
    (record {
      block = low_of 4 (g 0);
      class = low_of 2 (g 1);
      lead = low_of 2 (g 2);
      datatype = low_of 1 (g 3);
      interval = scale_by g 4;
      resolution = scale_by g 7;
      offset = bits_by g 10;
      null = bits_by g 12;
    })

-- The words from place i on; past the end they are 0.
abbrev pub words_at : List ℕ → ℕ → ℕ → ℕ
words_at u i a = get_or u (i + a) 0

-- The record at place i.
abbrev pub record_at : List ℕ → ℕ → Dated
record_at u i = record_by (words_at u i)

-- The n records from place i on.
unfoldable pub records_from : ℕ → ℕ → List ℕ → List Dated
records_from zero i u = []
records_from (suc n) i u = record_at u i ∷ records_from n (i + record_words) u

-- How many whole records words hold.
abbrev pub records_held : List ℕ → ℕ
records_held u = length u / record_words

-- The records that words hold.
unfoldable pub records_in : List ℕ → List Dated
records_in u = records_from (records_held u) 0 u

-- What the records hold.
abbrev pub held_in : List ℕ → List Settings
held_in u = held (records_in u)

-- The octets of a sequence below a channel, as they are kept with its record.
abbrev pub below_in : List ℕ → ℕ → ℕ
below_in u k = get_or u (k * record_words + below_word) 0

-- Of what stands for a channel, how its samples stand in a waveform and what their bits mean.
abbrev pub sampling_of : Settings → Sampling
sampling_of c = record { block = c.block; datatype = c.datatype; null = c.null }

-- The words v hold the records xs; they are as many as the words u, and what is of no record's numbers is the same.
pub record Holding (u : List ℕ) (xs : List Dated) (v : List ℕ) : Type 0 where
  pub records : records_in v ≡ xs
  pub long : length v ≡ length u
  pub others : (m : ℕ) → (record_numbers ≤ m % record_words) ⊎ (records_held u * record_words ≤ m) → get_or v m 0 ≡ get_or u m 0

-- The words v are the words u with the first n of w from place i on.
pub record Overlaid (u : List ℕ) (i : ℕ) (w : List ℕ) (n : ℕ) (v : List ℕ) : Type 0 where
  pub long : length v ≡ length u
  pub inside : (a : ℕ) → a < n → get_or v (i + a) 0 ≡ get_or w a 0
  pub outside : (m : ℕ) → (m < i) ⊎ (i + n ≤ m) → get_or v m 0 ≡ get_or u m 0
