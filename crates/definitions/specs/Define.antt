-- A definition of an attribute (document 01, the table of "Attributes"): its lengths, its value, and what it asks for.
use Rattle.std.specs.Prelude.{List, Bool, true, not, ℕ, eqb, leb, pos, length, get_or, take, drop, Result, Ok, Err, Option, Some, None}
use Rattle.heads.specs.declared.Fault.{Fault}
use Rattle.std.specs.Int.Signed.{lt_z}
use Rattle.octets.specs.Pick.{pick, both, either}
use Rattle.octets.specs.Number.{number_of, signed_of, twos}
use Rattle.values.specs.declared.Bits.{Bits}
use Rattle.heads.specs.declared.Fault.TheVariants.{UnfitLength, UnfitValue}
use Rattle.settings.specs.declared.Scale.{Scale}
use Rattle.settings.specs.declared.Settings.{Settings}
use Rattle.definitions.specs.declared.Attribute.{Attribute}
use Rattle.settings.specs.declared.Change.{Change}
use Rattle.settings.specs.Settings.{block_limit, last_data_type, last_interval_unit, last_resolution_unit}

-- The column "Tag": 04, 08, 09, 0A, 0B, 0C, 0D, 12 may stand in a group.
unfoldable pub tagged : ℕ → (Option Attribute)
tagged tag =
    pick (eqb tag 0x04) (Some Attribute.Block)
    (pick (eqb tag 0x08) (Some Attribute.Class)
    (pick (eqb tag 0x09) (Some Attribute.Lead)
    (pick (eqb tag 0x0A) (Some Attribute.DataType)
    (pick (eqb tag 0x0B) (Some Attribute.Interval)
    (pick (eqb tag 0x0C) (Some Attribute.Resolution)
    (pick (eqb tag 0x0D) (Some Attribute.Offset)
    (pick (eqb tag 0x12) (Some Attribute.Null)
    None)))))))

-- 0, 3 to 6
abbrev pub scale_length : ℕ → Bool
scale_length n = either (eqb n 0) (both (leb 3 n) (leb n 6))

-- 0, 1, 2, 4, 8
abbrev pub bits_length : ℕ → Bool
bits_length n = either (leb n 2) (either (eqb n 4) (eqb n 8))

-- The column "Lengths".
abbrev pub length_fits : Attribute → ℕ → Bool
length_fits Attribute.Block n = leb n 4
length_fits Attribute.Class n = leb n 34
length_fits Attribute.Lead n = leb n 34
length_fits Attribute.DataType n = leb n 1
length_fits Attribute.Interval n = scale_length n
length_fits Attribute.Resolution n = scale_length n
length_fits Attribute.Offset n = bits_length n
length_fits Attribute.Null n = bits_length n

-- A code is one octet, or the first two by the byte order; text after it is stepped over.
abbrev pub code_of : Bool → List ℕ → ℕ
code_of little v = number_of little (take 2 v)

-- A unit octet, a signed exponent octet and a mantissa of 1 to 4 octets, two's complement, which alone goes by the byte order.
unfoldable pub scale_of : Bool → List ℕ → Scale
scale_of little v = record { unit = get_or v 0 0; exponent = twos 1 (get_or v 1 0); mantissa = signed_of little (take 4 (drop 2 v)) }

-- Bits are taken highest octet first, by the byte order; their width is the number of octets.
abbrev pub bits_of : Bool → List ℕ → Bits
bits_of little v = record { width = length (take 8 v); bits = number_of little (take 8 v) }

-- The new value that a definition's octets hold. Text after a class or lead code is stepped over; no other length that fits is cut off, and octets
-- that are not there count as 0.
abbrev pub change_of : Attribute → Bool → List ℕ → Change
change_of Attribute.Block little v = Change.Block (number_of little (take 4 v))
change_of Attribute.Class little v = Change.Class (code_of little v)
change_of Attribute.Lead little v = Change.Lead (code_of little v)
change_of Attribute.DataType little v = Change.DataType (get_or v 0 0)
change_of Attribute.Interval little v = Change.Interval (scale_of little v)
change_of Attribute.Resolution little v = Change.Resolution (scale_of little v)
change_of Attribute.Offset little v = Change.Offset (bits_of little v)
change_of Attribute.Null little v = Change.Null (bits_of little v)

-- An attribute as it stands in a record.
abbrev pub standing_in : Attribute → Settings → Change
standing_in Attribute.Block s = Change.Block s.block
standing_in Attribute.Class s = Change.Class s.class
standing_in Attribute.Lead s = Change.Lead s.lead
standing_in Attribute.DataType s = Change.DataType s.datatype
standing_in Attribute.Interval s = Change.Interval s.interval
standing_in Attribute.Resolution s = Change.Resolution s.resolution
standing_in Attribute.Offset s = Change.Offset s.offset
standing_in Attribute.Null s = Change.Null s.null

-- 1 to 1,048,576
abbrev pub block_fits : ℕ → Bool
block_fits n = both (leb 1 n) (leb n block_limit)

-- A unit up to the last one, and a mantissa of at least 1.
abbrev pub scale_fits : ℕ → Scale → Bool
scale_fits last x = both (leb x.unit last) (lt_z (pos 0) x.mantissa)

-- The column "Values".
abbrev pub in_range : Change → Bool
in_range (Change.Block n) = block_fits n
in_range (Change.Class n) = true
in_range (Change.Lead n) = true
in_range (Change.DataType n) = leb n last_data_type
in_range (Change.Interval x) = scale_fits last_interval_unit x
in_range (Change.Resolution x) = scale_fits last_resolution_unit x
in_range (Change.Offset x) = true
in_range (Change.Null x) = true

-- What a definition asks for: 6 for its length, 7 for its value; length 0 goes back to what stands in `base`: the
-- defaults outside a group, the root settings inside one.
unfoldable pub defined : Attribute → Bool → Settings → List ℕ → (Result Change Fault)
defined a little base v =
    pick (not (length_fits a (length v))) (Err UnfitLength)
    (pick (eqb (length v) 0) (Ok (standing_in a base))
    (pick (in_range (change_of a little v)) (Ok (change_of a little v)) (Err UnfitValue)))

-- What a definition of n octets gives of one attribute, by the same three tests: nothing, what stands, or its value x.
unfoldable pub read_as : {A R : Type 0} → (A → R) → R → Bool → ℕ → Bool → A → A → R
read_as value refused fits n ranged base x =
    pick (not fits) refused
    (pick (eqb n 0) (value base)
    (pick ranged (value x) refused))

-- A block length.
abbrev pub block_read : Bool → ℕ → List ℕ → (Option ℕ)
block_read little base v = let n = number_of little (take 4 v) in read_as Some None (length_fits Attribute.Block (length v)) (length v) (block_fits n) base n

-- A class or a lead code.
abbrev pub code_read : Bool → ℕ → List ℕ → (Option ℕ)
code_read little base v = read_as Some None (length_fits Attribute.Class (length v)) (length v) true base (code_of little v)

-- A data type.
abbrev pub type_read : ℕ → List ℕ → (Option ℕ)
type_read base v = let n = get_or v 0 0 in read_as Some None (length_fits Attribute.DataType (length v)) (length v) (leb n last_data_type) base n

-- An interval or a resolution, whose last unit is `last`.
abbrev pub scale_read : ℕ → Bool → Scale → List ℕ → (Option Scale)
scale_read last little base v = let x = scale_of little v in read_as Some None (scale_length (length v)) (length v) (scale_fits last x) base x

-- An offset or a null.
abbrev pub bits_read : Bool → Bits → List ℕ → (Option Bits)
bits_read little base v = read_as Some None (bits_length (length v)) (length v) true base (bits_of little v)
