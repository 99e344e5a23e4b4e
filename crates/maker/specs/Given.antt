-- The settings of a channel as a caller hands them over, whole numbers of any size, and which of them document 01's table of attributes has (document 02,
-- request 1).
use Rattle.std.specs.Prelude.{Bool, true, false, List, [], ◌∷◌, map, ℕ, ◌+◌, ◌*◌, ◌^◌, eqb, ltb, leb, ℤ, pos, negsuc, get_or}
use Rattle.std.specs.Int.Signed.{le_z}
use Rattle.octets.specs.Pick.{pick, both, either}
use Rattle.values.specs.declared.Bits.{Bits}
use Rattle.values.specs.Sample.{width_of}
use Rattle.settings.specs.declared.Scale.{Scale}
use Rattle.settings.specs.declared.Settings.{Settings}
use Rattle.settings.specs.Settings.{block_limit, last_data_type, last_interval_unit, last_resolution_unit}
use Rattle.canonical.specs.Recording.{tabulate}
use Rattle.numbers.specs.Numbers.{attribute_numbers}

-- ---- rows

-- A unit, an exponent and a mantissa.
pub record GivenScale : Type 0 where
  pub unit : ℤ
  pub exponent : ℤ
  pub mantissa : ℤ

-- The settings of a channel. A null of width 0 is none, any other is one.
pub record Given : Type 0 where
  pub block : ℤ
  pub class : ℤ
  pub lead : ℤ
  pub datatype : ℤ
  pub interval : GivenScale
  pub resolution : GivenScale
  pub offset : ℕ
  pub null_width : ℤ
  pub null : ℕ

-- How many bits a row has: the offset's and null's.
abbrev pub bit_numbers : ℕ
bit_numbers = 2

-- Its numbers are three behind each other in a row, from a on.
abbrev pub given_scale : (ℕ → ℤ) → ℕ → GivenScale
given_scale g a = record { unit = g a; exponent = g (a + 1); mantissa = g (a + 2) }

-- A row is as the attributes of a channel are told (crate numbers, `numbers_of` and `bit_pair_of`): g 0 to g 14, and h 0 and h 1. The numbers 0, 1, 2 and 13,
-- which are start pointer, channels, sequences and sample width, are not looked at.
abbrev pub given_by : (ℕ → ℤ) → (ℕ → ℕ) → Given
given_by g h =
    record {
      block = g 3;
      class = g 4;
      lead = g 5;
      datatype = g 6;
      interval = given_scale g 7;
      resolution = given_scale g 10;
      offset = h 0;
      null_width = g 14;
      null = h 1;
    }

-- Row i of rows that stand one behind the other.
abbrev pub given_at : List ℤ → List ℕ → ℕ → Given
given_at numbers bits i = given_by (λ a. get_or numbers (i * attribute_numbers + a) (pos 0)) (λ a. get_or bits (i * bit_numbers + a) 0)

-- The first n rows.
abbrev pub givens_in : ℕ → List ℤ → List ℕ → List Given
givens_in n numbers bits = tabulate n (given_at numbers bits)

-- ---- the table of attributes

-- The last number that two octets hold: codes.
abbrev pub last_code : ℕ
last_code = 65_535

-- The last number that four octets hold in two's complement.
abbrev pub last_mantissa : ℕ
last_mantissa = 2_147_483_647

-- A number from `low` to `high`; a number below 0 is none of these.
abbrev pub within : ℕ → ℕ → ℤ → Bool
within low high (pos n) = both (leb low n) (leb n high)
within low high (negsuc k) = false

-- Signed 8 bits.
unfoldable pub exponent_fits : ℤ → Bool
exponent_fits z = both (le_z (negsuc 127) z) (le_z z (pos 127))

-- A unit up to the last one, an exponent octet and a mantissa of at least 1.
unfoldable pub scale_in_table : ℕ → GivenScale → Bool
scale_in_table last x = both (within 0 last x.unit) (both (exponent_fits x.exponent) (within 1 last_mantissa x.mantissa))

-- A number as it is where it is none below 0.
abbrev pub natural_of : ℤ → ℕ
natural_of (pos n) = n
natural_of (negsuc k) = 0

-- Octets per sample of the data type.
abbrev pub width_given : Given → ℕ
width_given g = width_of (natural_of g.datatype)

-- Bits are not wider than the sample.
unfoldable pub bits_fit : ℕ → ℕ → Bool
bits_fit width x = ltb x (256 ^ width)

-- A null width of 0: there is no null.
abbrev pub no_null : ℤ → Bool
no_null (pos n) = eqb n 0
no_null (negsuc k) = false

-- Block length, class and lead code, and data type.
unfoldable pub numbers_in_table : Given → Bool
numbers_in_table g =
    both (within 1 block_limit g.block)
    (both (within 0 last_code g.class)
    (both (within 0 last_code g.lead)
    (within 0 last_data_type g.datatype)))

-- Interval and resolution.
unfoldable pub scales_in_table : Given → Bool
scales_in_table g = both (scale_in_table last_interval_unit g.interval) (scale_in_table last_resolution_unit g.resolution)

-- Offset and null, where there is one.
unfoldable pub bits_in_table : Given → Bool
bits_in_table g = both (bits_fit (width_given g) g.offset) (either (no_null g.null_width) (bits_fit (width_given g) g.null))

-- Every setting of a channel is in the table, and no bits are wider than the sample.
unfoldable pub in_table : Given → Bool
in_table g = both (numbers_in_table g) (both (scales_in_table g) (bits_in_table g))

-- So it is of every channel.
unfoldable pub all_in_table : List Given → Bool
all_in_table [] = true
all_in_table (g ∷ gs) = both (in_table g) (all_in_table gs)

-- ---- settings

-- A unit, an exponent and a mantissa that are in the table.
abbrev pub scale_made : GivenScale → Scale
scale_made x = record { unit = natural_of x.unit; exponent = x.exponent; mantissa = x.mantissa }

-- Offset and null have the sample's width; no null has width 0.
abbrev pub bits_made : ℕ → ℕ → Bits
bits_made width x = record { width = width; bits = x }

unfoldable pub null_made : Given → Bits
null_made g = pick (no_null g.null_width) (bits_made 0 0) (bits_made (width_given g) g.null)

-- The settings that a row says, where they are in the table.
unfoldable pub settings_made : Given → Settings
settings_made g =
    record {
      block = natural_of g.block;
      class = natural_of g.class;
      lead = natural_of g.lead;
      datatype = natural_of g.datatype;
      interval = scale_made g.interval;
      resolution = scale_made g.resolution;
      offset = bits_made (width_given g) g.offset;
      null = null_made g;
    }

-- Those of the first n rows.
abbrev pub channels_made : ℕ → List ℤ → List ℕ → List Settings
channels_made n numbers bits = map settings_made (givens_in n numbers bits)
