-- The definitions at a few samples. Assumes nothing.
use mathlib.Core.Path.{◌≡◌, refl}
use lib.IntN.{pos, negsuc}
use lib.Ieee.{nan_bits}
use Rattle.octets.specs.Number.{twos}
use Rattle.values.specs.declared.Bits.{Bits}
use Rattle.values.specs.Sample.{width_of, whole_said, single_said, not_number_said, null_said, single_of, plain_of, is_null, value_of}

-- null not defined
abbrev none : Bits
none = record { width = 0; bits = 0 }

-- an octet with a sign, and without
pub signed : value_of 5 none 255 ≡ whole_said (negsuc 0)
unfolding value_of is_null plain_of width_of twos
signed = refl

pub unsigned : value_of 3 none 255 ≡ whole_said (pos 255)
unfolding value_of is_null plain_of width_of
unsigned = refl

-- infinity is a number's bits, and what lies above it is not
pub infinity : value_of 7 none 2139095040 ≡ single_said 2139095040
unfolding value_of is_null plain_of single_of width_of nan_bits
infinity = refl

pub not_a_number : value_of 7 none 2139095041 ≡ not_number_said 2139095041
unfolding value_of is_null plain_of single_of width_of nan_bits
not_a_number = refl

-- null comes first, also where the bits are no number's
pub null : value_of 7 (record { width = 4; bits = 2139095041 }) 2139095041 ≡ null_said
unfolding value_of is_null width_of
null = refl
