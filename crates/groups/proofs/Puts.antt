-- Laws of writing a channel's group and a frame's head.
--     put_two, put_more    one store after another
--     put_as               what was stored, under another name
--     field_is             a number's item, as it is stored
--     scale_is, items-is, group_is, head-is    an item of a scale, the items of a group, the group and a frame's head, as they are stored
--     length-items                             the items of a group take what their three parts take
--     sequences-none, sequences-some           06, as it is stored
--     ahead-stored, head-stored    what stands ahead of a group's items, and a frame's head, stored part by part
-- Assumes nothing.
use mathlib.Core.Path.{◌≡◌, sym, ap, subst, ◌∙◌}
use mathlib.Core.List.{List, [], ◌∷◌, ◌++◌, append_assoc}
use mathlib.Core.Bool.{true}
use Prim.Native.Nat.{ℕ, ◌+◌, ◌≤◌, ◌<◌}
use native.Mathlib.Omega.{arith}
use borrow.Author.Tests.{eq-eqb, ne_eqb}
use lib.Dec.{eqb}
use lib.IntN.{ℤ}
use lib.ListN.{length, length-append}
use Rattle.octets.proofs.Pick.{pick_cases}
use Rattle.stores.specs.Number.{be, length-be, field}
use Rattle.stores.specs.Length.{shortest, shortest_short}
use Rattle.stores.specs.Storing.{Put, Putting, put_fits}
use Rattle.stores.proofs.Stores.{put_then, put_long, putting_then}
use Rattle.values.proofs.Laws.{width_le}
use Rattle.settings.specs.declared.Scale.{Scale}
use Rattle.settings.specs.declared.Settings.{Settings}
use Rattle.layout.specs.Frame.{width_in, reported}
use Rattle.sizes.specs.Size.{null_size, content_size}
use Rattle.groups.specs.Item.{item_octets, number_item, unsigned_of}
use Rattle.groups.specs.Head.{sequences_item, head_items}
use Rattle.groups.specs.Group.{channel_octets, scale_item, null_item, group_items, group_octets}
use Rattle.groups.specs.Parts.{first_items, scale_items, last_items}
use Rattle.groups.proofs.Sizes.{content_octet}

-- ---- one store after another

module _ {d e f u v : List ℕ} {at r t : ℕ} (room : at + (length u + length v) ≤ length d) where
  pub put_two : Putting d at u r e → Putting e r v t f → Put d at (u ++ v) t f
  put_two p q = put_fits (rw length-append room) (putting_then room p q)

  pub put_more : Put d at u r e → Putting e r v t f → Put d at (u ++ v) t f
  put_more p q = put_then p (put_fits (omega (arith, p.next, put_long p)) q)

-- What was stored, under another name.
pub put_as : {d e u v : List ℕ} {at r : ℕ} → u ≡ v → Put d at u r e → Put d at v r e
put_as {d} {e} {at = at} {r = r} p q = subst (λ (l : List ℕ). Put d at l r e) p q

-- ---- items, as they are stored

field_is : (tag w n : ℕ) → w < 128 → number_item tag w n ≡ field tag w n
unfolding number_item item_octets field
field_is tag w n h =
    let e : shortest (length (be w n)) ≡ w ∷ [] = ap shortest (length-be w n) ∙ shortest_short w h in
    ap (λ (l : List ℕ). tag ∷ (l ++ be w n)) e

-- A scale's item.
abbrev pub scale_parts : ℕ → Scale → List ℕ
scale_parts tag x = (((tag ∷ 6 ∷ []) ++ (x.unit ∷ [])) ++ be 1 (unsigned_of 1 x.exponent)) ++ be 4 (unsigned_of 4 x.mantissa)

pub scale_is : (tag : ℕ) (x : Scale) → scale_item tag x ≡ scale_parts tag x
unfolding scale_item item_octets
scale_is tag x =
    let v = x.unit ∷ (be 1 (unsigned_of 1 x.exponent) ++ be 4 (unsigned_of 4 x.mantissa)) in
    let l : length v ≡ 6 = simp (length-append, length-be) in
    let e : shortest (length v) ≡ 6 ∷ [] = ap shortest l ∙ shortest_short 6 (omega arith) in
    ap (λ (s : List ℕ). tag ∷ (s ++ v)) e

null-none : (c : Settings) → eqb c.null.width 0 ≡ true → item_octets 0x12 [] ≡ field 0x12 (null_size (width_in c) c.null) c.null.bits
unfolding item_octets field be shortest
null-none c e = simp e

null_is : (c : Settings) → null_item (reported c) ≡ field 0x12 (null_size (width_in c) c.null) c.null.bits
unfolding null_item reported
null_is c =
    pick_cases (λ (l : List ℕ). l ≡ field 0x12 (null_size (width_in c) c.null) c.null.bits) (eqb c.null.width 0)
    (null-none c)
    (λ e. field_is 0x12 (width_in c) c.null.bits (omega (arith, width_le c.datatype)) ∙ simp e)

-- The items of a group.
pub items-is : (c : Settings) → group_items (reported c) ≡ (first_items c ++ scale_items c) ++ last_items c
unfolding group_items reported
items-is c =
    let w : width_in c < 128 = omega (arith, width_le c.datatype) in
    let f : 4 < 128 = omega arith in
    let g : 2 < 128 = omega arith in
    let h : 1 < 128 = omega arith in
    simp (field_is, null_is c, append_assoc)

pub length-items : (c : Settings) → length (group_items (reported c)) ≡ length (first_items c) + length (scale_items c) + length (last_items c)
length-items c =
    let last = length-append (first_items c ++ scale_items c) (last_items c) in
    let front = length-append (first_items c) (scale_items c) in
    omega (arith, ap length (items-is c))

-- What stands ahead of a group's items.
abbrev pub ahead_parts : ℕ → ℕ → List ℕ
ahead_parts k n = ((0x3F ∷ []) ++ channel_octets k) ++ (n ∷ [])

-- A channel's group.
pub group_is : (k n : ℕ) (c : Settings) → n ≡ content_size (width_in c) c.null → ahead_parts k n ++ group_items (reported c) ≡ group_octets k (reported c)
unfolding group_octets
group_is k n c e =
    ap (λ (m : ℕ). ahead_parts k m ++ group_items (reported c)) e
    ∙ ap (λ (l : List ℕ). 0x3F ∷ l) (append_assoc (channel_octets k) (content_size (width_in c) c.null ∷ []) (group_items (reported c)))
    ∙ ap (λ (l : List ℕ). 0x3F ∷ (channel_octets k ++ (l ++ group_items (reported c)))) (sym (content_octet c))

-- 06.
pub sequences-none : (n : ℕ) → n ≡ 0 → sequences_item n ≡ 0x06 ∷ 0 ∷ []
unfolding sequences_item item_octets shortest
sequences-none n e = simp (eq-eqb n 0 e)

pub sequences-some : (n : ℕ) → (n ≡ 0 → ⊥) → sequences_item n ≡ field 0x06 4 n
unfolding sequences_item
sequences-some n e = rw (ne_eqb n 0 e) (field_is 0x06 4 n (omega arith))

-- A frame's head.
head-is : (count sequences n : ℕ) (start : ℤ) → n ≡ unsigned_of 4 start → (field 0x05 4 count ++ sequences_item sequences) ++ field 0x07 4 n ≡ head_items count sequences start
unfolding head_items
head-is count sequences n start e =
    let f : 4 < 128 = omega arith in
    rw e (simp (field_is, append_assoc))

-- ---- one store after another, from tag to tag

module _ {d e f g : List ℕ} {at r t v : ℕ} where
  pub ahead-stored : (k n : ℕ) → at + length (ahead_parts k n) ≤ length d → Putting d at (0x3F ∷ []) r e → Putting e r (channel_octets k) t f → Putting f t (n ∷ []) v g → Put d at (ahead_parts k n) v g
  ahead-stored k n h p q o =
      let room = simp length-append at h in
      put_more (simp length-append (omega arith)) (put_two (omega arith) p q) o

  pub head-stored : (count sequences n : ℕ) (start : ℤ) → n ≡ unsigned_of 4 start → at + length (head_items count sequences start) ≤ length d
      → Putting d at (field 0x05 4 count) r e → Putting e r (sequences_item sequences) t f → Putting f t (field 0x07 4 n) v g → Put d at (head_items count sequences start) v g
  head-stored count sequences n start e h p q o =
      let is = head-is count sequences n start e in
      let room = simp length-append at (rw (← is) at h) in
      put_as is (put_more (simp length-append (omega arith)) (put_two (omega arith) p q) o)
