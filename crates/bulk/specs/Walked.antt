-- How values are told. No public contract cites this.
use Rattle.std.specs.Prelude.{◌≡◌, List, map, true, ℕ, ◌+◌, ◌-◌, ◌^◌, ◌≤◌, ◌<◌, ℤ, length}
use Rattle.values.specs.declared.Meaning.{Meaning}
use Rattle.values.specs.Told.{meaning_of, told_of}
use Rattle.view.specs.declared.View.{View}
use Rattle.view.specs.View.{there_seen, lies_in}
use Rattle.strides.specs.Laying.{bits_from}
use Rattle.bulk.specs.Samples.{bits_seen}

-- Samples are still to be told: the channel lies in the file, n samples from `first` on are there, and both buffers have room for them.
pub record ToTell (s : List ℕ) (v : View) (first n kinds wholes : ℕ) : Type 0 where
  pub lies : lies_in (length s) v ≡ true
  pub number : n ≤ there_seen v - first
  pub small : first + n < 2 ^ 64
  pub kinds_fit : n ≤ kinds
  pub wholes_fit : n ≤ wholes

-- What is told of bits: kinds and whole numbers.
abbrev pub kinds_told : Meaning → List ℕ → List ℕ
kinds_told m bits = map (λ b. (told_of m b).kind) bits

abbrev pub wholes_told : Meaning → List ℕ → List ℤ
wholes_told m bits = map (λ b. (told_of m b).whole) bits

-- The same of n samples of a channel that is seen.
abbrev pub meaning_seen : View → Meaning
meaning_seen v = meaning_of v.settings.datatype v.settings.null

abbrev pub kinds_seen : List ℕ → View → ℕ → ℕ → List ℕ
kinds_seen s v first n = kinds_told (meaning_seen v) (bits_from (bits_seen s v) first n)

abbrev pub wholes_seen : List ℕ → View → ℕ → ℕ → List ℤ
wholes_seen s v first n = wholes_told (meaning_seen v) (bits_from (bits_seen s v) first n)
