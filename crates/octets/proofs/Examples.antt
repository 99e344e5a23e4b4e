-- The definitions at a few octets. Assumes nothing.
use mathlib.Core.Path.{◌≡◌, refl}
use mathlib.Core.List.{[], ◌∷◌}
use mathlib.Core.Bool.{true, false}
use lib.IntN.{pos, negsuc}
use Rattle.octets.specs.Number.{big_from, little_of, number_of, twos, signed_of}

pub three_big : number_of false (1 ∷ 2 ∷ 3 ∷ []) ≡ 66051
unfolding number_of big_from
three_big = refl

pub three_little : number_of true (1 ∷ 2 ∷ 3 ∷ []) ≡ 197121
unfolding number_of little_of
three_little = refl

-- -2 in two octets, the sign carried up from the top octet of either byte order
pub minus_two_big : signed_of false (255 ∷ 254 ∷ []) ≡ negsuc 1
unfolding signed_of number_of big_from twos
minus_two_big = refl

pub minus_two_little : signed_of true (254 ∷ 255 ∷ []) ≡ negsuc 1
unfolding signed_of number_of little_of twos
minus_two_little = refl

-- the ends of one octet's range, and no octet
pub greatest : twos 1 127 ≡ pos 127
unfolding twos
greatest = refl

pub least : twos 1 128 ≡ negsuc 127
unfolding twos
least = refl

pub no_octet : signed_of false [] ≡ pos 0
unfolding signed_of number_of big_from twos
no_octet = refl
