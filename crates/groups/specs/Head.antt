-- A frame's head in the canonical file (document 01, "The canonical file").
use Rattle.std.specs.Prelude.{List, [], ◌++◌, ℕ, eqb, ℤ}
use Rattle.octets.specs.Pick.{pick}
use Rattle.groups.specs.Item.{item_octets, number_item, unsigned_of}

-- 06 with 4 octets, or 06 00 for 0 sequences.
unfoldable pub sequences_item : ℕ → List ℕ
sequences_item n = pick (eqb n 0) (item_octets 0x06 []) (number_item 0x06 4 n)

-- 05, 06 and 07: the channel count, the sequences and the start pointer.
unfoldable pub head_items : ℕ → ℕ → ℤ → List ℕ
head_items count sequences start =
    number_item 0x05 4 count
    ++ (sequences_item sequences
    ++ number_item 0x07 4 (unsigned_of 4 start))
