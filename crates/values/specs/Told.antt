-- How the bits of many samples of one data type are told: what the type means, as numbers, and then the kind and the whole number of each, with no
-- more choice by type. None of it is a rule of document 01.
use Rattle.std.specs.Prelude.{[], ◌∷◌, ℕ, ◌-◌, ltb, leb, ℤ, pos, negsuc, get_or}
use Rattle.octets.specs.Pick.{pick}
use Rattle.values.specs.declared.Bits.{Bits}
use Rattle.values.specs.declared.Meaning.{Meaning}
use Rattle.values.specs.declared.Shape.{Shape}
use Rattle.values.specs.declared.Shape.TheVariants.{Whole, Other}
use Rattle.values.specs.declared.Telling.{Telling}
use Rattle.values.specs.Sample.{Said, is_null}

-- What is told of a value: its kind and its whole number.
abbrev pub telling : ℕ → ℤ → Telling
telling kind whole = record { kind = kind; whole = whole }

abbrev pub told_as : Said → Telling
told_as x = telling x.kind x.whole

-- Whole numbers without a sign.
abbrev pub unsigned : Shape
unsigned = Whole 0xFFFF_FFFF 0xFFFF_FFFF

-- What the bits of a sample stand for, null aside, by its data type.
unfoldable pub shape_of : ℕ → Shape
shape_of datatype =
    get_or
    (Whole 0x7FFF 0xFFFF
    ∷ unsigned
    ∷ Whole 0x7FFF_FFFF 0xFFFF_FFFF
    ∷ unsigned
    ∷ Other 1 0x1_0000 0xFFFF
    ∷ Whole 0x7F 0xFF
    ∷ unsigned
    ∷ Other 2 0x8000_0000 0x7F80_0000
    ∷ Other 3 0x8000_0000_0000_0000 0x7FF0_0000_0000_0000
    ∷ [])
    datatype unsigned

-- What they mean, with null.
abbrev pub meaning_of : ℕ → Bits → Meaning
meaning_of datatype null = record { shape = shape_of datatype; null = null }

-- The whole number of some bits; bits above `top` are no sample's, and 0 is told of them.
unfoldable pub whole_told : ℕ → ℕ → ℕ → ℤ
whole_told last top bits = pick (leb bits last) (pos bits) (pick (leb bits top) (negsuc (top - bits)) (pos 0))

-- Bits without their sign.
unfoldable pub signless : ℕ → ℕ → ℕ
signless sign bits = pick (ltb bits sign) bits (bits - sign)

-- What is told of some bits, null aside. Whole numbers up to `last` are themselves, and those above it stand for themselves less the range that ends at
-- `top`; any other is no number where it is above infinity without the sign.
unfoldable pub number_told : Shape → ℕ → Telling
number_told (Whole last top) bits = telling 0 (whole_told last top bits)
number_told (Other kind sign infinity) bits = pick (ltb infinity (signless sign bits)) (telling 4 (pos 0)) (telling kind (pos 0))

-- What is told of some bits: null comes first.
unfoldable pub told_of : Meaning → ℕ → Telling
told_of m bits = pick (is_null m.null bits) (telling 5 (pos 0)) (number_told m.shape bits)
