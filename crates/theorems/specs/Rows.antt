-- The rows of the table "What comes back when it is no" (document 01) that an item can meet, in the order in which they are looked for.
use Rattle.std.specs.Prelude.{◌≡◌, List, [], ◌∷◌, Bool, true, false, not, ℕ, zero, suc, ◌+◌, ◌-◌, ◌*◌, ◌/◌, ◌%◌, ltb, leb, eqb, length, get_or, take, drop}
use Rattle.octets.specs.Pick.{pick, both, either}
use Rattle.octets.specs.Number.{big_from}
use Rattle.heads.specs.declared.Refusal.{Refusal}
use Rattle.heads.specs.declared.Fault.{Fault}
use Rattle.heads.specs.declared.Fault.TheVariants.{ContextTag, LengthOctet, PastEnd, LongChannel, BarredTag, UnfitLength, UnfitValue, ChannelNumber, Compressed, UnendedGroup, ManyFrames, SampleWidth, StartRange}
use Rattle.items.specs.declared.Within.{Within}
use Rattle.items.specs.Walk.{refusal, is_inside}
use Rattle.layout.specs.Frame.{all_agree}
use Rattle.standing.specs.Standing.{frames_limit}
use Rattle.framing.specs.Framing.{pointer_fits}
use Rattle.verdict.specs.Verdict.{State, frame_channels}
use Rattle.theorems.specs.Attributes.{among, entry_of}

-- A row: a number with its place, and whether its condition holds.
pub record Row : Type 0 where
  pub gives : Refusal
  pub holds : Bool

abbrev pub row : Fault → ℕ → Bool → Row
row fault place holds = record { gives = refusal fault place; holds = holds }

-- A refusal is due: the condition of its row holds, and that of no row ahead of it does.
pub data Due : List Row → Refusal → Type 0 where
  here : (r : Row) (rs : List Row) → r.holds ≡ true → Due (r ∷ rs) r.gives
  later : (r : Row) (rs : List Row) (q : Refusal) → r.holds ≡ false → Due rs q → Due (r ∷ rs) q

-- ---- the parts of an item, from the octets u behind its tag

abbrev pub is_group : ℕ → Bool
is_group tag = eqb tag 0x3F

-- How many octets at the front have their top bit set, where `most` are looked at.
unfoldable pub marked : ℕ → List ℕ → ℕ
marked zero u = 0
marked (suc most) [] = 0
marked (suc most) (b ∷ u) = pick (ltb b 0x80) 0 (suc (marked most u))

-- The number that octets of seven bits stand for, highest first, after those whose number is acc.
unfoldable pub seven_from : ℕ → List ℕ → ℕ
seven_from acc [] = acc
seven_from acc (b ∷ u) = seven_from (acc * 128 + b % 128) u

-- Each octet of a channel number but the last has its top bit set; at most four octets.
abbrev pub number_octets : List ℕ → ℕ
number_octets u = suc (marked 4 u)

abbrev pub channel_named : List ℕ → ℕ
channel_named u = seven_from 0 (take (number_octets u) u)

-- 3Fh has a channel number between tag and length: the octets from the length on.
abbrev pub from_length : ℕ → List ℕ → List ℕ
from_length tag u = pick (is_group tag) (drop (number_octets u) u) u

-- Length 00 to 7F: that many octets. 81 to 84: that many length octets follow. 80h: open length, which says none.
abbrev pub length_first : List ℕ → ℕ
length_first w = get_or w 0 0

abbrev pub length_field : List ℕ → ℕ
length_field w = suc (length_first w - 0x80)

abbrev pub length_in : List ℕ → ℕ
length_in w = pick (ltb (length_first w) 0x80) (length_first w) (big_from 0 (take (length_first w - 0x80) (drop 1 w)))

abbrev pub value_in : List ℕ → List ℕ
value_in w = take (length_in w) (drop (length_field w) w)

-- ---- conditions

-- Bit 6 (20h) of a tag marks a context tag; only 3Fh is known.
unfoldable pub is_unknown : ℕ → Bool
is_unknown tag = both (eqb (tag / 0x20 % 2) 1) (not (is_group tag))

-- 01, 05, 06, 07, 0E, 1E or 3F
unfoldable pub is_barred : ℕ → Bool
is_barred tag = among (0x01 ∷ 0x05 ∷ 0x06 ∷ 0x07 ∷ 0x0E ∷ 0x1E ∷ 0x3F ∷ []) tag

-- The fourth channel octet has its top bit set.
abbrev pub long_number : List ℕ → Bool
long_number u = eqb (marked 4 u) 4

-- The channel number runs past the end.
abbrev pub number_past : List ℕ → Bool
number_past u = eqb (marked 4 u) (length u)

-- Length octet 85h to FFh, or 80h not on 3Fh.
abbrev pub no_length : Bool → List ℕ → Bool
no_length group w = either (leb 0x85 (length_first w)) (both (eqb (length_first w) 0x80) (not group))

-- The length or the value runs past the end.
abbrev pub value_past : List ℕ → Bool
value_past w = ltb (length w) (length_field w + length_in w)

-- No channel count stands: none yet, or the last had length 0. A group met then is ignored.
abbrev pub uncounted : State → Bool
uncounted x = eqb x.standing.counted 0

-- The value has octets; length 0 goes back to what stands.
abbrev pub given : List ℕ → Bool
given v = not (eqb (length v) 0)

-- ---- the rows

-- The rows of an item whose tag stands at a place, inside a group or not, in document 01's order: 1, 5, channel number (4 or 3 as met), 2, 3, then 9, 8, 6,
-- 7; at 1Eh 11, 12, 13. 14 is retired (document 02, request 2). In an ignored group only 1 to 5 are looked for. The place is the offset of the item's tag.
unfoldable pub item_rows : State → ℕ → Bool → ℕ → List ℕ → List Row
item_rows x at inside tag u =
    let group = is_group tag in
    let w = from_length tag u in
    let v = value_in w in
    let heeded = not (both inside (uncounted x)) in
    let frame = eqb tag 0x1E in
    row ContextTag at (is_unknown tag)
    ∷ row BarredTag at (both inside (is_barred tag))
    ∷ row LongChannel at (both group (long_number u))
    ∷ row PastEnd at (both group (number_past u))
    ∷ row LengthOctet at (no_length group w)
    ∷ row PastEnd at (value_past w)
    ∷ row Compressed at (both (eqb tag 0x0E) (given v))
    ∷ row ChannelNumber at (both group (both (not (uncounted x)) (leb x.standing.counted (channel_named u))))
    ∷ row UnfitLength at (both heeded (not ((entry_of tag).lengths (length v))))
    ∷ row UnfitValue at (both heeded (both (given v) (not ((entry_of tag).values x.standing.little v))))
    ∷ row ManyFrames at (both frame (leb frames_limit (length x.frames)))
    ∷ row SampleWidth at (both frame (not (all_agree (frame_channels x))))
    ∷ row StartRange at (both frame (not (pointer_fits x.standing.start)))
    ∷ []

-- 10: open group: file ends between two of its items. The place is the group's.
abbrev pub end_rows : Within → List Row
end_rows Within.Root = []
end_rows (Within.Definite channel end) = []
end_rows (Within.Open channel place) = row UnendedGroup place true ∷ []

-- The rows at a place, where the octets up to the end of the file or of the definite group around it are given.
unfoldable pub rows_at : State → ℕ → Within → List ℕ → List Row
rows_at x at within [] = end_rows within
rows_at x at within (tag ∷ u) = item_rows x at (is_inside within) tag u
