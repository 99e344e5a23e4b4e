-- The numbers that octets stand for, for any width.
use Rattle.std.specs.Prelude.{◌≡◌, List, [], ◌∷◌, Bool, true, false, ℕ, suc, ◌+◌, ◌*◌, ◌-◌, ◌%◌, ◌^◌, ◌<◌, ltb, ℤ, pos, negsuc, length, get_or}
use Rattle.octets.specs.Pick.{pick}

-- Each number of a list is an octet; past its end a list is read as 0, which is one.
abbrev pub Octets : List ℕ → Type 0
Octets v = (i : ℕ) → get_or v i 0 < 256

-- How many numbers w octets tell apart.
abbrev pub range : ℕ → ℕ
range w = 256 ^ w

-- The number of the lowest w octets of a number.
abbrev pub low_of : ℕ → ℕ → ℕ
low_of w n = n % range w

-- The number of octets that stand highest first, after those whose number is acc.
unfoldable pub big_from : ℕ → List ℕ → ℕ
big_from acc [] = acc
big_from acc (b ∷ s) = big_from (acc * 256 + b) s

-- The number of octets that stand lowest first.
unfoldable pub little_of : List ℕ → ℕ
little_of [] = 0
little_of (b ∷ s) = little_of s * 256 + b

-- The number that octets stand for in a byte order: true is little-endian, false big-endian.
unfoldable pub number_of : Bool → List ℕ → ℕ
number_of true s = little_of s
number_of false s = big_from 0 s

-- Two's complement at w octets: a number from half of the range on stands for itself less the range; at no octets 0 is 0.
unfoldable pub twos : ℕ → ℕ → ℤ
twos w n = pick (ltb (2 * n) (range w)) (pos n) (negsuc (range w - suc n))

-- The two's complement number of octets in a byte order, its sign that of the top octet.
unfoldable pub signed_of : Bool → List ℕ → ℤ
signed_of little s = twos (length s) (number_of little s)

-- A number that was read: which one it is, and that it is one of its width.
pub record NumberRead (little : Bool) (s : List ℕ) (r : ℕ) : Type 0 where
  pub value : r ≡ number_of little s
  pub below : r < range (length s)
