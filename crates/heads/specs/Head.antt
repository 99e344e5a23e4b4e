-- One item (document 01, "Items"): its tag, for 3Fh its channel number, and its length. Each definition looks at the octets from the
-- front of a list, which ends with the file or with the definite group around the item.
use Rattle.heads.specs.declared.Fault.{Fault}
use Rattle.heads.specs.declared.Length.{Length}
use Rattle.heads.specs.declared.ItemHead.{ItemHead}
use Rattle.std.specs.Prelude.{ℕ, zero, suc, ◌+◌, ◌-◌, ◌*◌, ◌/◌, ◌%◌, List, [], ◌∷◌, Bool, not, length, take, drop, ltb, eqb, Result, Ok, Err, Option, Some, None}
use Rattle.octets.specs.Pick.{pick, both, either}
use Rattle.octets.specs.Number.{big_from}
use Rattle.heads.specs.declared.Fault.TheVariants.{ContextTag, LengthOctet, PastEnd, LongChannel, BarredTag}

-- Seven bits an octet, highest first; each octet but the last has its top bit set; at most four octets. Here `allowed` octets may
-- still come, `passed` are behind, and `value` is what those say.
unfoldable pub channel_of : ℕ → ℕ → ℕ → List ℕ → (Result (Option (ℕ × ℕ)) Fault)
channel_of zero passed value u = (Err LongChannel)
channel_of (suc allowed) passed value [] = (Ok None)
channel_of (suc allowed) passed value (b ∷ u) =
    let v = value * 128 + b % 128 in
    let more = channel_of allowed (passed + 1) v u in
    pick (ltb b 128) (Ok (Some (v, (passed + 1)))) more

-- Length 00 to 7F: that many octets. 81 to 84: that many length octets follow, big-endian. 80h: open length. 85 to FF: no length.
unfoldable pub length_of : List ℕ → (Result (Option Length) Fault)
length_of [] = (Ok None)
length_of (b ∷ u) =
    let n = b - 128 in
    pick (ltb b 128) (Ok (Some (Length.Known b 1)))
    (pick (eqb n 0) (Ok (Some (Length.Open 1)))
    (pick (ltb 4 n) (Err LengthOctet)
    (pick (ltb (length u) n) (Ok None)
    (Ok (Some (Length.Known (big_from 0 (take n u)) (n + 1)))))))

-- Bit 6 (20h) of a tag marks a context tag; only 3Fh is known.
unfoldable pub unknown_context : ℕ → Bool
unknown_context tag = both (eqb (tag / 32 % 2) 1) (not (eqb tag 0x3F))

-- The tags that may not stand inside a group: refusal 5.
unfoldable pub root_only : ℕ → Bool
root_only tag =
    either (eqb tag 0x01) (either (eqb tag 0x05) (either (eqb tag 0x06) (either (eqb tag 0x07)
    (either (eqb tag 0x0E) (either (eqb tag 0x1E) (eqb tag 0x3F))))))

-- ---- the head alone

-- What the octets that have come say of an item's head, `start` counted from its tag: more octets are wanted, a fault, or all of the head.
-- Where the value ends is not looked at.

-- Open length stands only on 3Fh (2).
unfoldable pub primitive_form : ℕ → Result (Option Length) Fault → (Result (Option ItemHead) Fault)
primitive_form tag (Ok (Some (Length.Known n octets))) = Ok (Some (ItemHead.Primitive tag (octets + 1) n))
primitive_form tag (Ok (Some (Length.Open octets))) = Err LengthOctet
primitive_form tag (Ok None) = (Ok None)
primitive_form tag (Err fault) = Err fault

-- The length of a group whose channel number took k octets.
unfoldable pub group_length : ℕ → ℕ → Result (Option Length) Fault → (Result (Option ItemHead) Fault)
group_length channel k (Ok (Some (Length.Known n octets))) = Ok (Some (ItemHead.Definite channel (k + octets + 1) n))
group_length channel k (Ok (Some (Length.Open octets))) = Ok (Some (ItemHead.Open channel (k + octets + 1)))
group_length channel k (Ok None) = (Ok None)
group_length channel k (Err number) = Err number

-- 3Fh has a channel number between tag and length: 4 as met.
unfoldable pub group_form : List ℕ → Result (Option (ℕ × ℕ)) Fault → (Result (Option ItemHead) Fault)
group_form u (Ok (Some (channel, k))) = group_length channel k (length_of (drop k u))
group_form u (Ok None) = (Ok None)
group_form u (Err number) = Err number

-- Within a head the order is 1, 5, channel number, 2.
unfoldable pub form_of : Bool → List ℕ → (Result (Option ItemHead) Fault)
form_of inside [] = (Ok None)
form_of inside (tag ∷ u) =
    pick (unknown_context tag) (Err ContextTag)
    (pick (both inside (root_only tag)) (Err BarredTag)
    (pick (eqb tag 0x3F) (group_form u (channel_of 4 0 0 u))
    (primitive_form tag (length_of u))))

-- ---- the head with its value

-- Neither the head nor the value may run past the end, `long` octets from the tag on (3). A group's own extent is looked at here, before its contents.
unfoldable pub head_by : ℕ → Result (Option ItemHead) Fault → (Result ItemHead Fault)
head_by long (Ok None) = Err PastEnd
head_by long (Err fault) = Err fault
head_by long (Ok (Some (ItemHead.Primitive tag start len))) = pick (ltb (long - start) len) (Err PastEnd) (Ok (ItemHead.Primitive tag start len))
head_by long (Ok (Some (ItemHead.Definite channel start len))) = pick (ltb (long - start) len) (Err PastEnd) (Ok (ItemHead.Definite channel start len))
head_by long (Ok (Some (ItemHead.Open channel start))) = Ok (ItemHead.Open channel start)

-- The head of the item at the front of u: within an item the order is 1, 5, channel number (4 or 3 as met), 2, 3. Where there is no octet at all, 3; a
-- walk never asks there.
unfoldable pub head_of : Bool → List ℕ → (Result ItemHead Fault)
head_of inside u = head_by (length u) (form_of inside u)
