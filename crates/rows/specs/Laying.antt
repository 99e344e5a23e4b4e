-- How rows are made. No public contract cites this.
use Rattle.std.specs.Prelude.{◌≡◌, List, ℕ, ◌+◌, ◌*◌, ◌≤◌, length}
use Rattle.values.specs.Sample.{Said, value_of}
use Rattle.reader.specs.Answer.{found_sample}
use Rattle.words.specs.declared.Sampling.{Sampling}
use Rattle.walk.specs.declared.Waveform.{Waveform}
use Rattle.link.specs.Link.{Given}
use Rattle.rows.specs.declared.Spot.{Spot}
use Rattle.rows.specs.declared.Laid.{Laid}
use Rattle.rows.specs.declared.Shown.{Shown}
use Rattle.rows.specs.Rows.{row_words, whole_word, Laying}

-- The two words that tell a value: its kind and its whole number.
abbrev pub showing : ℕ → ℕ → Shown
showing kind whole = record { kind = kind; whole = whole }

abbrev pub shown_as : Said → Shown
shown_as x = showing x.kind (whole_word x.whole)

-- The sample of these bits at a spot and a place.
abbrev pub given_at : Sampling → Spot → ℕ → ℕ → Given
given_at c at place bits =
    record {
      channel = at.channel;
      number = at.sequence * c.block + at.index;
      sample = found_sample place bits (value_of c.datatype c.null bits);
    }

-- Rows laid behind others: what was laid from some sample on up to `from`, in a buffer that is now d, is laid up to r, and the buffer is then e.
pub record Onward (t : List ℕ) (v : Waveform) (count : ℕ) (u : List ℕ) (from : Laid) (d : List ℕ) (r : Laid) (e : List ℕ) : Type 0 where
  pub within : r.taken ≤ length u
  pub room : row_words * r.given ≤ length d
  pub long : length e ≡ length d
  pub on : (at : Spot) (f : List ℕ) → Laying t v at count u f from d → Laying t v at count u f r e
