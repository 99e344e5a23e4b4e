-- Answers as numbers, in the order in which callers take them. The number of a value's kind, and of a value that is whole, are said with the values (crate
-- values, `value_says`).
use Rattle.std.specs.Prelude.{Bool, List, [], ◌∷◌, ℕ, ℤ, pos}
use Rattle.octets.specs.Pick.{pick}
use Rattle.reader.specs.declared.Attributes.{Attributes}
use Rattle.walk.specs.declared.Waveform.{Waveform}

-- ---- attributes

-- How many attributes are numbers.
abbrev pub attribute_numbers : ℕ
attribute_numbers = 15

-- The attributes that are numbers, in their order; a null of width 0 is none.
unfoldable pub numbers_of : Attributes → List ℤ
numbers_of a =
    let c = a.settings in
    a.start
    ∷ pos a.channels
    ∷ pos a.sequences
    ∷ pos c.block
    ∷ pos c.class
    ∷ pos c.lead
    ∷ pos c.datatype
    ∷ pos c.interval.unit
    ∷ c.interval.exponent
    ∷ c.interval.mantissa
    ∷ pos c.resolution.unit
    ∷ c.resolution.exponent
    ∷ c.resolution.mantissa
    ∷ pos c.offset.width
    ∷ pos c.null.width
    ∷ []

-- The bits of the offset and of null.
unfoldable pub bit_pair_of : Attributes → List ℕ
bit_pair_of a = a.settings.offset.bits ∷ a.settings.null.bits ∷ []

-- ---- frames

-- How many numbers a frame has, besides its start pointer.
abbrev pub frame_numbers : ℕ
frame_numbers = 6

-- 1 for yes.
abbrev pub flag_number : Bool → ℕ
flag_number b = pick b 1 0

-- The numbers of a frame besides its start pointer, in their order.
unfoldable pub frame_numbers_of : Waveform → List ℕ
frame_numbers_of v = v.channels ∷ v.sequences ∷ flag_number v.little ∷ v.place ∷ v.len ∷ v.octets ∷ []
