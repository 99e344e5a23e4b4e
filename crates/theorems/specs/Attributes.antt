-- The table of "Attributes" (document 01), its columns "Lengths" and "Values".
use Rattle.std.specs.Prelude.{List, [], ◌∷◌, Bool, true, false, ℕ, eqb, leb, pos, get_or, drop}
use Rattle.std.specs.Int.Signed.{lt_z}
use Rattle.octets.specs.Pick.{pick, both, either}
use Rattle.octets.specs.Number.{number_of, signed_of}
use Rattle.settings.specs.Settings.{channel_limit, block_limit, last_data_type, last_interval_unit, last_resolution_unit}

-- An entry of the table: a tag, the lengths given for it, and which octets of such a length are a value, by the byte order that stands.
pub record Entry : Type 0 where
  pub tag : ℕ
  pub lengths : ℕ → Bool
  pub values : Bool → List ℕ → Bool

abbrev pub entry : ℕ → (ℕ → Bool) → (Bool → List ℕ → Bool) → Entry
entry tag lengths values = record { tag = tag; lengths = lengths; values = values }

-- One of these numbers.
abbrev pub among : List ℕ → ℕ → Bool
among [] n = false
among (a ∷ rest) n = either (eqb n a) (among rest n)

-- low to high
abbrev pub between : ℕ → ℕ → ℕ → Bool
between low high n = both (leb low n) (leb n high)

-- Every value: signed numbers, codes, bits.
abbrev pub any : Bool → List ℕ → Bool
any little v = true

-- An octet, 0 to last.
abbrev pub octet_to : ℕ → Bool → List ℕ → Bool
octet_to last little v = leb (get_or v 0 0) last

-- A number of at least 1; four octets hold none above 4,294,967,295.
abbrev pub from_one : Bool → List ℕ → Bool
from_one little v = leb 1 (number_of little v)

-- A number, 1 to last.
abbrev pub one_to : ℕ → Bool → List ℕ → Bool
one_to last little v = between 1 last (number_of little v)

-- A unit octet, 0 to last, an exponent octet, and a mantissa of at least 1 in value.
abbrev pub unit_to : ℕ → Bool → List ℕ → Bool
unit_to last little v = both (leb (get_or v 0 0) last) (lt_z (pos 0) (signed_of little (drop 2 v)))

-- 0, 3 to 6
abbrev pub scale_lengths : ℕ → Bool
scale_lengths n = either (eqb n 0) (between 3 6 n)

-- The table: byte order, block length, channels, sequences, start pointer, class, lead code, data type, interval, resolution, offset, null.
abbrev pub attributes : List Entry
attributes =
    entry 0x01 (among (0 ∷ 1 ∷ [])) (octet_to 1)
    ∷ entry 0x04 (between 0 4) (one_to block_limit)
    ∷ entry 0x05 (between 0 4) (one_to channel_limit)
    ∷ entry 0x06 (between 0 4) from_one
    ∷ entry 0x07 (between 0 4) any
    ∷ entry 0x08 (between 0 34) any
    ∷ entry 0x09 (between 0 34) any
    ∷ entry 0x0A (among (0 ∷ 1 ∷ [])) (octet_to last_data_type)
    ∷ entry 0x0B scale_lengths (unit_to last_interval_unit)
    ∷ entry 0x0C scale_lengths (unit_to last_resolution_unit)
    ∷ entry 0x0D (among (0 ∷ 1 ∷ 2 ∷ 4 ∷ 8 ∷ [])) any
    ∷ entry 0x12 (among (0 ∷ 1 ∷ 2 ∷ 4 ∷ 8 ∷ [])) any
    ∷ []

-- The entry of a tag. A tag that is not in the table is stepped over: its length and its value may be any.
unfoldable pub entry_in : List Entry → ℕ → Entry
entry_in [] tag = entry tag (λ n. true) any
entry_in (l ∷ ls) tag = pick (eqb tag l.tag) l (entry_in ls tag)

abbrev pub entry_of : ℕ → Entry
entry_of tag = entry_in attributes tag
