-- The value of a sample: "Octets per sample by type", the six kinds of "Frames and samples", and the seventh of document 02, request 2.
use Rattle.std.specs.Prelude.{Bool, not, [], ◌∷◌, ℕ, eqb, ℤ, pos, get_or}
use Rattle.std.specs.Float.{binary32, binary64}
use Rattle.std.specs.Float.Ieee.{to_bits, nan_bits}
use Rattle.octets.specs.Number.{low_of, twos}
use Rattle.octets.specs.Pick.{pick, both}
use Rattle.values.specs.declared.Bits.{Bits}
use Rattle.values.specs.declared.Value.{Value}
use Rattle.values.specs.declared.Value.TheVariants.{Whole, Status, Single, Double, NotNumber, Null, NoData}

-- Octets of a sample by its data type, 0 to 8; an accepted file has no other type, and for one the answer is 0.
unfoldable pub width_of : ℕ → ℕ
width_of datatype = get_or (2 ∷ 2 ∷ 4 ∷ 1 ∷ 2 ∷ 1 ∷ 4 ∷ 4 ∷ 8 ∷ []) datatype 0

-- ---- what a value says

-- The number of its kind, its number where it is whole, and its bits where it has bits; else 0.
pub record Said : Type 0 where
  pub kind : ℕ
  pub whole : ℤ
  pub bits : ℕ

-- The seven kinds, numbered in the order whole, status, single, double, not-a-number, null, no data. No data is said of a sample that is not there.
abbrev pub whole_said : ℤ → Said
whole_said z = record { kind = 0; whole = z; bits = 0 }

abbrev pub status_said : ℕ → Said
status_said n = record { kind = 1; whole = pos 0; bits = n }

abbrev pub single_said : ℕ → Said
single_said n = record { kind = 2; whole = pos 0; bits = n }

abbrev pub double_said : ℕ → Said
double_said n = record { kind = 3; whole = pos 0; bits = n }

abbrev pub not_number_said : ℕ → Said
not_number_said n = record { kind = 4; whole = pos 0; bits = n }

abbrev pub null_said : Said
null_said = record { kind = 5; whole = pos 0; bits = 0 }

abbrev pub no_data_said : Said
no_data_said = record { kind = 6; whole = pos 0; bits = 0 }

-- What each value says; a single and a double say their own bits.
unfoldable pub value_says : Value → Said
value_says (Whole z) = whole_said z
value_says (Status n) = status_said n
value_says (Single x) = single_said (to_bits binary32 x)
value_says (Double x) = double_said (to_bits binary64 x)
value_says (NotNumber n) = not_number_said n
value_says Null = null_said
value_says NoData = no_data_said

-- ---- the value of some bits

-- The single of some bits, or the bits themselves where they are no number's.
unfoldable pub single_of : ℕ → Said
single_of n = pick (nan_bits binary32 n) (not_number_said n) (single_said n)

-- The double of some bits, or the bits themselves where they are no number's.
unfoldable pub double_of : ℕ → Said
double_of n = pick (nan_bits binary64 n) (not_number_said n) (double_said n)

-- The value of a sample's bits, null aside, by its data type, 0 to 8; an accepted file has no other type. Types 0, 2 and 5 are signed.
unfoldable pub plain_of : ℕ → ℕ → Said
plain_of datatype n =
    let signed = whole_said (twos (width_of datatype) n) in
    let unsigned = whole_said (pos n) in
    get_or (signed ∷ unsigned ∷ signed ∷ unsigned ∷ status_said n ∷ signed ∷ unsigned ∷ single_of n ∷ double_of n ∷ []) datatype (whole_said (pos 0))

-- The bits are null's: null is defined, and its bits are these. Widths need no comparison: 12 has refused a null of another width.
unfoldable pub is_null : Bits → ℕ → Bool
is_null null n = both (not (eqb null.width 0)) (eqb null.bits n)

-- The value of a sample's bits: null comes first, then the data type decides.
unfoldable pub value_of : ℕ → Bits → ℕ → Said
value_of datatype null bits = pick (is_null null bits) null_said (plain_of datatype bits)

-- Of a number that is wider than a sample of a data type, the bits that such a sample has: the lowest.
abbrev pub low_bits : ℕ → ℕ → ℕ
low_bits datatype bits = low_of (width_of datatype) bits
