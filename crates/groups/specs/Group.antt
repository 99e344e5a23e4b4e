-- A channel's group in the canonical file (document 01, "The canonical file").
use Rattle.std.specs.Prelude.{List, [], ◌∷◌, ◌++◌, ℕ, suc, ◌+◌, ◌/◌, ◌%◌, eqb, ltb, length}
use Rattle.octets.specs.Pick.{pick}
use Rattle.stores.specs.Number.{be}
use Rattle.stores.specs.Length.{shortest}
use Rattle.settings.specs.declared.Scale.{Scale}
use Rattle.settings.specs.declared.Settings.{Settings}
use Rattle.layout.specs.Frame.{width_in}
use Rattle.groups.specs.Item.{item_octets, number_item, unsigned_of}

-- The shortest form of a channel number below 16,384: seven bits an octet, highest first.
unfoldable pub channel_octets : ℕ → List ℕ
channel_octets k = pick (ltb k 128) (k ∷ []) ((128 + k / 128) ∷ (k % 128) ∷ [])

-- 0B and 0C: a unit octet, an exponent octet and a mantissa of four octets.
unfoldable pub scale_item : ℕ → Scale → List ℕ
scale_item tag x = item_octets tag (x.unit ∷ (be 1 (unsigned_of 1 x.exponent) ++ be 4 (unsigned_of 4 x.mantissa)))

-- 12 with the sample width, or 12 00 for none.
unfoldable pub null_item : Settings → List ℕ
null_item c = pick (eqb c.null.width 0) (item_octets 0x12 []) (number_item 0x12 (width_in c) c.null.bits)

-- The items of a group: 04 (4 octets), 08, 09 (2 each), 0A (1), 0B, 0C (6 each), 0D (sample width), 12.
unfoldable pub group_items : Settings → List ℕ
group_items c =
    number_item 0x04 4 c.block
    ++ (number_item 0x08 2 c.class
    ++ (number_item 0x09 2 c.lead
    ++ (number_item 0x0A 1 c.datatype
    ++ (scale_item 0x0B c.interval
    ++ (scale_item 0x0C c.resolution
    ++ (number_item 0x0D (width_in c) c.offset.bits
    ++ null_item c))))))

-- A group for a channel: shortest channel number, definite length.
unfoldable pub group_octets : ℕ → Settings → List ℕ
group_octets k c = 0x3F ∷ (channel_octets k ++ (shortest (length (group_items c)) ++ group_items c))

-- The groups of the channels from k on, in order.
unfoldable pub groups_octets : ℕ → List Settings → List ℕ
groups_octets k [] = []
groups_octets k (c ∷ cs) = group_octets k c ++ groups_octets (suc k) cs
