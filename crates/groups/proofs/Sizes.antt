-- How many octets the parts of a frame's head and of a channel's group take.
--     length-item, short_item, number-long    an item
--     scale_long, null-long, content_long     the items of a group
--     content_few, content_octet              they take few octets, so that their length is one
--     channel-long, group_long, groups-long   a channel number, a group and groups
--     sequences-long, head-long               06, and a frame's head
-- Assumes nothing.
use Prim.Native.Nat.{ℕ, suc, ◌+◌, ◌/◌, ◌%◌, ◌<◌}
use mathlib.Core.Path.{◌≡◌, refl}
use mathlib.Core.List.{List, [], ◌∷◌, ◌++◌, map}
use mathlib.Core.Bool.{Bool, true, false}
use native.Mathlib.Omega.{arith}
use lib.Dec.{eqb, ltb}
use lib.IntN.{ℤ}
use lib.ListN.{length, length-append}
use Rattle.octets.specs.Pick.{pick}
use Rattle.stores.specs.Number.{be, length-be}
use Rattle.stores.specs.Length.{shortest, shortest_short, length_shortest_short}
use Rattle.values.proofs.Laws.{width_le}
use Rattle.settings.specs.declared.Scale.{Scale}
use Rattle.settings.specs.declared.Settings.{Settings}
use Rattle.layout.specs.Frame.{width_in, offset_bits, reported}
use Rattle.sizes.specs.Size.{channel_size, null_size, content_size, group_size, sequences_size, head_size}
use Rattle.layout.specs.Measure.{groups_size}
use Rattle.sizes.proofs.Laws.{null-le}
use Rattle.groups.specs.Item.{item_octets, number_item, unsigned_of}
use Rattle.groups.specs.Head.{sequences_item, head_items}
use Rattle.groups.specs.Group.{channel_octets, scale_item, null_item, group_items, group_octets, groups_octets}

pub length-item : (tag : ℕ) (v : List ℕ) → length (item_octets tag v) ≡ length (shortest (length v)) + 1 + length v
unfolding item_octets
length-item tag v = rw length-append (omega arith)

short_item : (tag : ℕ) (v : List ℕ) → length v < 128 → length (item_octets tag v) ≡ 2 + length v
short_item tag v h = omega (arith, length-item tag v, length_shortest_short (length v) h)

number-long : (tag w n : ℕ) → w < 128 → length (number_item tag w n) ≡ 2 + w
unfolding number_item
number-long tag w n h = omega (arith, length-be w n, short_item tag (be w n) (rw length-be h))

-- ---- a frame's head

pub sequences-long : (n : ℕ) → length (sequences_item n) ≡ sequences_size n
unfolding sequences_item
sequences-long n = by (eqb n 0)
  where
    by : (t : Bool) → length (pick t (item_octets 0x06 []) (number_item 0x06 4 n)) ≡ pick t 2 6
    by true = short_item 0x06 [] (omega arith)
    by false = number-long 0x06 4 n (omega arith)

pub head-long : (count n : ℕ) (start : ℤ) → length (head_items count n start) ≡ head_size n
unfolding head_items head_size
head-long count n start =
    let a = number-long 0x05 4 count (omega arith) in
    let b = number-long 0x07 4 (unsigned_of 4 start) (omega arith) in
    simp (length-append, sequences-long) (omega arith)

-- ---- a channel's group

pub scale_long : (tag : ℕ) (x : Scale) → length (scale_item tag x) ≡ 8
unfolding scale_item
scale_long tag x =
    let e = unsigned_of 1 x.exponent in
    let m = unsigned_of 4 x.mantissa in
    let k : length (x.unit ∷ (be 1 e ++ be 4 m)) ≡ 6 = simp (length-append, length-be) in
    omega (arith, short_item tag (x.unit ∷ (be 1 e ++ be 4 m)) (omega arith))

null-long : (c : Settings) → length (null_item c) ≡ 2 + null_size (width_in c) c.null
unfolding null_item
null-long c = by (eqb c.null.width 0)
  where
    by : (t : Bool) → length (pick t (item_octets 0x12 []) (number_item 0x12 (width_in c) c.null.bits)) ≡ 2 + pick t 0 (width_in c)
    by true = short_item 0x12 [] (omega arith)
    by false = number-long 0x12 (width_in c) c.null.bits (omega (arith, width_le c.datatype))

pub content_long : (c : Settings) → length (group_items (reported c)) ≡ content_size (width_in c) c.null
unfolding group_items reported
content_long c =
    let block = number-long 0x04 4 c.block (omega arith) in
    let class = number-long 0x08 2 c.class (omega arith) in
    let lead = number-long 0x09 2 c.lead (omega arith) in
    let datatype = number-long 0x0A 1 c.datatype (omega arith) in
    let offset = number-long 0x0D (width_in c) (offset_bits c).bits (omega (arith, width_le c.datatype)) in
    simp (length-append, scale_long, null-long) (omega arith)

pub channel-long : (k : ℕ) → length (channel_octets k) ≡ channel_size k
unfolding channel_octets
channel-long k = by (ltb k 128)
  where
    by : (t : Bool) → length (pick t (k ∷ []) ((128 + k / 128) ∷ (k % 128) ∷ [])) ≡ pick t 1 2
    by true = refl
    by false = refl

-- A group's items take fewer than 128 octets, so that their length is one octet.
pub content_few : (c : Settings) → content_size (width_in c) c.null < 128
content_few c = omega (arith, width_le c.datatype, null-le (width_in c) c.null)

-- Their length is one octet.
pub content_octet : (c : Settings) → shortest (length (group_items (reported c))) ≡ content_size (width_in c) c.null ∷ []
content_octet c = rw (content_long c) (shortest_short (content_size (width_in c) c.null) (content_few c))

pub group_long : (k : ℕ) (c : Settings) → length (group_octets k (reported c)) ≡ group_size k (width_in c) c.null
unfolding group_octets group_size
group_long k c =
    let one = length_shortest_short (content_size (width_in c) c.null) (content_few c) in
    simp (length-append, content_long, channel-long) (omega arith)

pub groups-long : (k : ℕ) (cs : List Settings) → length (groups_octets k (map reported cs)) ≡ groups_size k cs
unfolding groups_octets groups_size
groups-long k [] = refl
groups-long k (c ∷ cs) = rw (length-append, group_long, groups-long (suc k) cs)
