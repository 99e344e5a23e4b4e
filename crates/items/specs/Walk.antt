-- All items of a file, one after the other (document 01, "Items").
use Rattle.heads.specs.declared.Fault.{Fault}
use Rattle.heads.specs.declared.ItemHead.{ItemHead}
use Rattle.std.specs.Prelude.{ℕ, zero, suc, ◌+◌, ◌-◌, List, [], ◌∷◌, Bool, true, false, length, take, drop, ltb, eqb, Result, Ok, Err, Option, Some, None}
use Rattle.octets.specs.Pick.{pick, both}
use Rattle.heads.specs.declared.Fault.TheVariants.{UnendedGroup}
use Rattle.heads.specs.Head.{head_of}
use Rattle.heads.specs.declared.Refusal.{Refusal}
use Rattle.items.specs.declared.Within.{Within}
use Rattle.items.specs.declared.Within.TheVariants.{Root}
use Rattle.items.specs.declared.Cursor.{Cursor}
use Rattle.items.specs.declared.Item.{Item}
use Rattle.items.specs.declared.Item.TheVariants.{Plain, Member, Mark}

-- A refusal with this fault at this place.
abbrev pub refusal : Fault → ℕ → Refusal
refusal fault place = record { fault = fault; place = place }

-- The cursor before an octet, in a group or outside.
abbrev pub cursor : ℕ → Within → Cursor
cursor at within = record { at = at; within = within }

-- A definite group is left at its end.
abbrev pub stands_in : ℕ → Within → Within
stands_in at Within.Root = Root
stands_in at (Within.Definite channel end) = pick (ltb at end) (Within.Definite channel end) Root
stands_in at (Within.Open channel place) = Within.Open channel place

-- Whether a place is inside a group.
abbrev pub is_inside : Within → Bool
is_inside Within.Root = false
is_inside (Within.Definite channel end) = true
is_inside (Within.Open channel place) = true

-- The octets from a place up to the end of the file or of the definite group around it.
abbrev pub extent : List ℕ → ℕ → Within → List ℕ
extent s at Within.Root = drop at s
extent s at (Within.Definite channel end) = take (end - at) (drop at s)
extent s at (Within.Open channel place) = drop at s

-- Where no octets are left the file has ended; in an open group that is refusal 10, at the group's place.
abbrev pub ended : Within → (Result (Option (Item × Cursor)) Refusal)
ended Within.Root = (Ok None)
ended (Within.Definite channel end) = (Ok None)
ended (Within.Open channel place) = Err (refusal UnendedGroup place)

-- In an open group an item 00 with length 0, in any length form, ends it.
abbrev pub ends_open : ℕ → ℕ → Bool
ends_open tag len = both (eqb tag 0) (eqb len 0)

-- The item with this head at a place, and the cursor behind its value; for a group the cursor before its contents.
unfoldable pub item_of : ℕ → Within → Result ItemHead Fault → (Result (Option (Item × Cursor)) Refusal)
item_of at Within.Root (Ok (ItemHead.Primitive tag start len)) = Ok (Some ((Plain at tag (at + start) len), (cursor (at + start + len) Root)))
item_of at (Within.Definite channel end) (Ok (ItemHead.Primitive tag start len)) =
    Ok (Some ((Member at channel tag (at + start) len), (cursor (at + start + len) (Within.Definite channel end))))
item_of at (Within.Open channel place) (Ok (ItemHead.Primitive tag start len)) =
    pick (ends_open tag len) (Ok (Some ((Mark at), (cursor (at + start + len) Root))))
    (Ok (Some ((Member at channel tag (at + start) len), (cursor (at + start + len) (Within.Open channel place)))))
item_of at within (Ok (ItemHead.Definite channel start len)) =
    Ok (Some ((Item.Group at channel), (cursor (at + start) (Within.Definite channel (at + start + len)))))
item_of at within (Ok (ItemHead.Open channel start)) = Ok (Some ((Item.Group at channel), (cursor (at + start) (Within.Open channel at))))
item_of at within (Err fault) = Err (refusal fault at)

-- What stands at a place whose octets up to the end are given.
unfoldable pub next_in : ℕ → Within → List ℕ → (Result (Option (Item × Cursor)) Refusal)
next_in at within [] = ended within
next_in at within (tag ∷ u) = item_of at within (head_of (is_inside within) (tag ∷ u))

-- The item at a cursor and the cursor behind it, the end, or the first fault of form with its place.
unfoldable pub next_of : List ℕ → Cursor → (Result (Option (Item × Cursor)) Refusal)
next_of s c =
    let within = stands_in c.at c.within in
    next_in c.at within (extent s c.at within)

-- The items of a file in file order; after the last one stands the end or the first fault of form.
pub data Items : Type 0 where
  item : Item → Items → Items
  finished : Items
  fault : Refusal → Items

unfoldable pub follow : (Cursor → Items) → Result (Option (Item × Cursor)) Refusal → Items
follow more (Ok (Some (i, c))) = item i (more c)
follow more (Ok None) = finished
follow more (Err r) = fault r

-- Each item takes octets, so that as many turns as there are octets, and one, are enough (`walk_turns` of the proofs: no more change
-- anything). Nothing outside the laws of `items_from` looks at the turns.
unfoldable pub walk : ℕ → List ℕ → Cursor → Items
walk zero s c = finished
walk (suc turns) s c = follow (walk turns s) (next_of s c)

-- The items from a cursor on.
unfoldable pub items_from : List ℕ → Cursor → Items
items_from s c = walk (suc (length s - c.at)) s c

-- The items of a file.
unfoldable pub items_of : List ℕ → Items
items_of s = items_from s (cursor 0 Root)
