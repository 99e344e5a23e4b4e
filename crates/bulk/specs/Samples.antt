-- What reading many samples of a channel answers (document 01, "Frames and samples"; document 02, request 2): how many are there, their bits, as the file has
-- them, or their values.
use Rattle.std.specs.Prelude.{List, map, ℕ, ◌-◌, min, ℤ, length}
use Rattle.heads.specs.Answer.{Answer, answered, map_answer}
use Rattle.values.specs.Sample.{Said, value_of}
use Rattle.settings.specs.declared.Settings.{Settings}
use Rattle.layout.specs.Frame.{channel_in}
use Rattle.laid.specs.Laid.{sample_bits}
use Rattle.there.specs.There.{there_in}
use Rattle.view.specs.declared.View.{View}
use Rattle.spread.specs.Spread.{bits_spread}
use Rattle.strides.specs.Laying.{bits_from}
use Rattle.view.specs.View.{spread_of, there_seen, asked_seen}
use Rattle.verdict.specs.Verdict.{verdict}
use Rattle.reader.specs.Answer.{asked, asked_sample}

-- How many samples of a channel in a frame are there.
unfoldable pub there_at : List ℕ → ℕ → ℕ → Answer ℕ
there_at s frame channel = asked (λ f. answered (there_in channel f)) frame channel (verdict s)

-- The bits of the samples from number `first` on: as many as there is room for, or are there; none where sample `first` is declared and not there. The file's
-- refusal, and 20, 21, 22 where no sample `first` is declared, come as for the question for that sample.
unfoldable pub read_of : List ℕ → ℕ → ℕ → ℕ → ℕ → Answer (List ℕ)
read_of s frame channel first room =
    asked_sample (λ f. bits_from (sample_bits f channel) first (min room (there_in channel f - first))) frame channel first (verdict s)

-- The bits of a sample of a channel that is seen.
unfoldable pub bits_seen : List ℕ → View → ℕ → ℕ
bits_seen s v n = bits_spread s (spread_of v) n

-- The same as `read_of` of a channel that is seen, whether or not the file has it: 22 where no sample `first` is declared, then 20 where the
-- channel's samples do not lie in the file.
unfoldable pub read_seen : List ℕ → View → ℕ → ℕ → Answer (List ℕ)
read_seen s v first room = asked_seen (length s) v first (bits_from (bits_seen s v) first (min room (there_seen v - first)))

-- ---- values

-- The values of the samples whose bits are these, of a channel with such settings.
abbrev pub values_by : Settings → List ℕ → List Said
values_by c bits = map (value_of c.datatype c.null) bits

-- The values of the samples from number `first` on, with the same refusals as for their bits.
unfoldable pub values_of : List ℕ → ℕ → ℕ → ℕ → ℕ → Answer (List Said)
values_of s frame channel first room =
    asked_sample (λ f. values_by (channel_in channel f.channels) (bits_from (sample_bits f channel) first (min room (there_in channel f - first)))) frame channel first (verdict s)

-- The same of a channel that is seen.
unfoldable pub values_seen : List ℕ → View → ℕ → ℕ → Answer (List Said)
values_seen s v first room = map_answer (values_by v.settings) (read_seen s v first room)

-- The kinds of values, and their whole numbers: 0 where a value is of another kind.
abbrev pub kinds_in : Answer (List Said) → Answer (List ℕ)
kinds_in a = map_answer (map (λ x. x.kind)) a

abbrev pub wholes_in : Answer (List Said) → Answer (List ℤ)
wholes_in a = map_answer (map (λ x. x.whole)) a

-- ---- how many

-- The answer: how many samples were written.
unfoldable pub count_read : List ℕ → ℕ → ℕ → ℕ → ℕ → Answer ℕ
count_read s frame channel first room = map_answer length (read_of s frame channel first room)
