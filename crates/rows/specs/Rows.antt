-- The samples of a waveform given out as rows of words, while its octets come (document 02, request 3). How a row is laid out is no rule of document 01.
use Rattle.std.specs.Prelude.{◌≡◌, List, [], ◌∷◌, ◌++◌, Bool, false, ℕ, suc, ◌+◌, ◌-◌, ◌*◌, ◌^◌, ◌≤◌, ◌<◌, ltb, leb, ℤ, pos, negsuc, length, get_or, take}
use Rattle.std.proofs.lemmas.List.Edits.{sets}
use Rattle.octets.specs.Pick.{both}
use Rattle.octets.specs.Number.{number_of}
use Rattle.values.specs.Sample.{value_of}
use Rattle.dated.specs.declared.Dated.{Dated}
use Rattle.dated.specs.Dated.{zero_dated}
use Rattle.words.specs.Words.{records_in}
use Rattle.layout.specs.Frame.{width_in}
use Rattle.standing.specs.Standing.{octets_limit}
use Rattle.reader.specs.Answer.{found_sample}
use Rattle.walk.specs.declared.Waveform.{Waveform}
use Rattle.walk.specs.Advance.{Stand}
use Rattle.link.specs.Link.{Coming, coming, Given, link, waved}
use Rattle.link.specs.Runs.{Leads}
use Rattle.rows.specs.declared.Spot.{Spot}
use Rattle.rows.specs.declared.Laid.{Laid}

-- ---- a row

-- The words of a row.
abbrev pub row_words : ℕ
row_words = 6

-- The word of a whole number: its two's complement.
abbrev pub whole_word : ℤ → ℕ
whole_word (pos n) = n
whole_word (negsuc n) = 2 ^ 64 - suc n

-- A sample's row: its channel, its number, its place in the file, the kind of its value, its whole number, which is 0 where the value is not whole, and its
-- bits.
abbrev pub row_of : Given → List ℕ
row_of x =
    x.channel
    ∷ x.number
    ∷ x.sample.place
    ∷ x.sample.value.kind
    ∷ whole_word x.sample.value.whole
    ∷ x.sample.bits
    ∷ []

-- Rows, one behind the other.
unfoldable pub rows_of : List Given → List ℕ
rows_of [] = []
rows_of (x ∷ xs) = row_of x ++ rows_of xs

-- ---- a sample

-- The sample at a spot, of which these octets have come.
abbrev pub coming_at : Spot → List ℕ → Coming
coming_at at octets = coming at.sequence at.channel at.index octets

-- The sample that octets complete, as a link gives it out, by no more than it looks at: the records, the byte order and how many octets have come.
abbrev pub given_from : (records : List Dated) (little : Bool) (count : ℕ) → Coming → List ℕ → Given
given_from records little count t octets =
    let c = (get_or records t.channel zero_dated).settings in
    let bits = number_of little (take (width_in c) octets) in
    record {
      channel = t.channel;
      number = t.sequence * c.block + t.index;
      sample = found_sample (count - length octets) bits (value_of c.datatype c.null bits);
    }

-- ---- many samples

abbrev pub laid : Spot → ℕ → ℕ → Laid
laid at taken given = record { at = at; taken = taken; given = given }

-- Octets per sample at a spot.
abbrev pub width_at : List ℕ → Spot → ℕ
width_at t at = width_in (get_or (records_in t) at.channel zero_dated).settings

-- The sample at a spot can be laid: it is in the frame's sequences, its data type is one, all its octets are there, and there is room for its row.
unfoldable pub lays_at : List ℕ → Waveform → Spot → (octets room : ℕ) → Bool
lays_at t v at octets room =
    both (ltb at.sequence v.sequences)
    (both (ltb 0 (width_at t at))
    (both (leb (width_at t at) octets)
    (leb row_words room)))

-- Whole samples from the one at a spot on, of which nothing has come: the octets taken of u lead a link with the records of t from that sample to the one that
-- comes next, and give out samples, whose rows stand at the front of the buffer d. `count` octets have come before u.
pub record Laying (t : List ℕ) (v : Waveform) (at : Spot) (count : ℕ) (u d : List ℕ) (r : Laid) (e : List ℕ) : Type 0 where
  pub samples : List Given
  pub within : r.taken ≤ length u
  pub given : length samples ≡ r.given
  pub room : row_words * r.given ≤ length d
  pub rows : e ≡ sets d 0 (rows_of samples)
  pub leads : (x : Stand) → x.records ≡ records_in t → (around left : ℕ) → length u ≤ left → count + length u ≤ octets_limit
      → Leads (link count x around v (waved left (coming_at at []))) (take r.taken u) (link (count + r.taken) x around v (waved (left - r.taken) (coming_at r.at []))) samples

-- As many as can be laid; none where u goes past 15's limit.
pub record Lays (t : List ℕ) (v : Waveform) (at : Spot) (count : ℕ) (u d : List ℕ) (r : Laid) (e : List ℕ) : Type 0 where
  pub laying : Laying t v at count u d r e
  pub past : octets_limit < count + length u → r ≡ laid at 0 0
  pub all : count + length u ≤ octets_limit → lays_at t v r.at (length u - r.taken) (length d - row_words * r.given) ≡ false
