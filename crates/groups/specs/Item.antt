-- Items of the canonical file (document 01, "The canonical file").
use Rattle.std.specs.Prelude.{List, ◌∷◌, ◌++◌, ℕ, suc, ◌-◌, ◌^◌, ℤ, pos, negsuc, length}
use Rattle.stores.specs.Number.{be}
use Rattle.stores.specs.Length.{shortest}

-- An item: its tag, its length in the shortest form, its value.
unfoldable pub item_octets : ℕ → List ℕ → List ℕ
item_octets tag v = tag ∷ (shortest (length v) ++ v)

-- An item that holds a number in w octets, big-endian.
unfoldable pub number_item : ℕ → ℕ → ℕ → List ℕ
number_item tag w n = item_octets tag (be w n)

-- The w octets of a signed number, as a number: two's complement.
unfoldable pub unsigned_of : ℕ → ℤ → ℕ
unsigned_of w (pos n) = n
unsigned_of w (negsuc k) = 256 ^ w - suc k
