-- Items whose octets are known, and what the walk finds there.
--     length_known    a length in its shortest form
--     channel_known   a channel number in its shortest form
--     head_known      the head of an item
--     group_known     the head of a group
--     rest_known, part_inside, value_known    what follows some octets, how long they are, and the value of an item
--     next_plain, next_group, next_member    what stands at a cursor
--     inside_first, inside-next    a group's items, one after the other
--     next-left       a group is left at its end
--     next_end        the file ends where no octets are left
-- Assumes nothing.
use Prim.Native.Nat.{ℕ, ◌+◌, ◌-◌, ◌/◌, ◌%◌, ◌^◌, ◌≤◌, ◌<◌}
use mathlib.Core.Path.{◌≡◌, refl, sym, ◌∙◌, ap}
use mathlib.Core.List.{List, [], ◌∷◌, ◌++◌, append_assoc}
use mathlib.Core.Bool.{Bool, true, false, not}
use native.Mathlib.Decide.{dec_lt}
use native.Mathlib.Numerals.{add-one}
use native.Mathlib.Omega.{arith}
use borrow.Author.Tests.{lt-ltb, le-ltb, ne_eqb}
use lib.Dec.{eqb}
use lib.ListN.{length, take, drop, length-append, length-drop}
use lib.Seq.{take_at, drop-drop, take-append_seam, drop-append_seam, drop-append-add}
use Rattle.std.specs.Prelude.{Ok, Err, Some, None}
use Rattle.octets.specs.Pick.{pick, both}
use Rattle.octets.specs.Number.{big_from, number_of}
use Rattle.stores.specs.Number.{be, length-be}
use Rattle.stores.proofs.Number.{number_back}
use Rattle.stores.proofs.Length.{holding-between, holding-holds}
use Rattle.stores.specs.Length.{holding, shortest, shortest_short, shortest-long}
use Rattle.heads.specs.declared.Length.{Length}
use Rattle.heads.specs.declared.ItemHead.{ItemHead}
use Rattle.items.specs.declared.Within.{Within}
use Rattle.items.specs.declared.Within.TheVariants.{Root}
use Rattle.items.specs.declared.Item.{Item}
use Rattle.items.specs.declared.Item.TheVariants.{Plain, Member}
use Rattle.heads.specs.Head.{channel_of, length_of, unknown_context, root_only, primitive_form, group_length, group_form, form_of, head_of}
use Rattle.heads.specs.declared.Fault.TheVariants.{ContextTag, BarredTag}
use Rattle.heads.proofs.Heads.{primitive_fits, definite_fits}
use Rattle.items.specs.Walk.{cursor, item_of, next_in, next_of}
use Rattle.effects.specs.Effects.{value_at}
use Rattle.standing.specs.Standing.{octets_limit}
use Rattle.groups.specs.Item.{item_octets}
use Rattle.groups.specs.Group.{channel_octets}
use Rattle.groups.proofs.Sizes.{length-item}

-- ---- lengths and channel numbers

big_known : (w n : ℕ) (rest : List ℕ) → n < 256 ^ w → big_from 0 (take w (be w n ++ rest)) ≡ n
unfolding number_of
big_known w n rest h = rw (take_at (be w n) rest w (length-be w n)) (number_back w n h)

pub length_known : (n : ℕ) (rest : List ℕ) → n < 2 ^ 32 → length_of (shortest n ++ rest) ≡ Ok (Some (Length.Known n (length (shortest n))))
unfolding length_of
length_known n rest h = by (dec_lt n 128)
  where
    by : Dec (n < 128) → length_of (shortest n ++ rest) ≡ Ok (Some (Length.Known n (length (shortest n))))
    by (yes a) = rw (shortest_short n a) (simp lt-ltb)
    by (no a) =
        let k = holding n in
        let o = holding-between n in
        let e : 128 + k - 128 ≡ k = omega arith in
        let z : k ≡ 0 → ⊥ = λ q. omega arith in
        let v : k ≤ length (be k n ++ rest) = rw (length-append, length-be) (omega arith) in
        rw (shortest-long n (omega arith), length-be)
        (simp (le-ltb (128 + k) 128 (omega arith), e, ne_eqb k 0 z, le-ltb 4 k o.1, le-ltb (length (be k n ++ rest)) k v, big_known k n rest (holding-holds n h), add-one))

pub channel_known : (k : ℕ) (rest : List ℕ) → k < 16384 → channel_of 4 0 0 (channel_octets k ++ rest) ≡ Ok (Some (k, length (channel_octets k)))
unfolding channel_of channel_octets
channel_known k rest h = by (dec_lt k 128)
  where
    by : Dec (k < 128) → channel_of 4 0 0 (channel_octets k ++ rest) ≡ Ok (Some (k, length (channel_octets k)))
    by (yes a) = simp lt-ltb (ap (λ (v : ℕ). Ok (Some (v, 1))) (omega arith))
    by (no a) =
        let l : k % 128 < 128 = omega arith in
        simp (le-ltb k 128 (omega arith), le-ltb (128 + k / 128) 128 (omega arith), lt-ltb (k % 128) 128 l)
        (ap (λ (v : ℕ). Ok (Some (v, 2))) (omega arith))

-- ---- heads

-- A tag that is no group's, and that may stand here.
unfoldable pub usual : Bool → ℕ → Bool
unfolding unknown_context root_only
usual inside tag = both (not (unknown_context tag)) (both (not (both inside (root_only tag))) (not (eqb tag 0x3F)))

-- A choice whose tests all fail.
last_picked : {A : Type 0} (x y z w : A) (a b c : Bool) → both (not a) (both (not b) (not c)) ≡ true → pick a x (pick b y (pick c z w)) ≡ w
last_picked x y z w true b c t = let q : ◌≡◌ {A = ℕ} 0 1 = cc in let n : ⊥ = omega arith in absurd n
last_picked x y z w false true c t = let q : ◌≡◌ {A = ℕ} 0 1 = cc in let n : ⊥ = omega arith in absurd n
last_picked x y z w false false true t = let q : ◌≡◌ {A = ℕ} 0 1 = cc in let n : ⊥ = omega arith in absurd n
last_picked x y z w false false false t = refl

form_usual : (inside : Bool) (tag : ℕ) (u : List ℕ) → usual inside tag ≡ true → form_of inside (tag ∷ u) ≡ primitive_form tag (length_of u)
unfolding form_of usual
form_usual inside tag u t =
    last_picked (Err ContextTag) (Err BarredTag) (group_form u (channel_of 4 0 0 u)) (primitive_form tag (length_of u))
    (unknown_context tag) (both inside (root_only tag)) (eqb tag 0x3F) t

pub head_known : (inside : Bool) (tag n : ℕ) (rest : List ℕ) → usual inside tag ≡ true → n < 2 ^ 32 → n ≤ length rest → head_of inside (tag ∷ (shortest n ++ rest)) ≡ Ok (ItemHead.Primitive tag (length (shortest n) + 1) n)
unfolding primitive_form
head_known inside tag n rest t h l =
    primitive_fits inside (tag ∷ (shortest n ++ rest)) (length (shortest n) + 1) n (rw length-append (omega arith)) tag
    (rw (form_usual inside tag (shortest n ++ rest) t, length_known n rest h))

-- A group with its channel number and its items.
abbrev pub group : ℕ → List ℕ → List ℕ
group k u = 0x3F ∷ (channel_octets k ++ (shortest (length u) ++ u))

-- What stands ahead of a group's items.
abbrev pub head_octets : ℕ → ℕ → ℕ
head_octets k n = length (channel_octets k) + length (shortest n) + 1

pub group_known : (k n : ℕ) (rest : List ℕ) → k < 16384 → n < 2 ^ 32 → n ≤ length rest → head_of false (0x3F ∷ (channel_octets k ++ (shortest n ++ rest))) ≡ Ok (ItemHead.Definite k (head_octets k n) n)
unfolding form_of unknown_context group_form group_length
group_known k n rest b h l =
    definite_fits false (0x3F ∷ (channel_octets k ++ (shortest n ++ rest))) (head_octets k n) n (simp length-append (omega arith)) k
    (rw (channel_known k (shortest n ++ rest) b, drop-append_seam (channel_octets k) (shortest n ++ rest), length_known n rest h))

-- ---- what stands at a cursor

module _ (s : List ℕ) (at : ℕ) (u post : List ℕ) (e : drop at s ≡ u ++ post) where
  pub rest_known : drop (at + length u) s ≡ post
  rest_known = rw (← drop-drop (length u) at s, e) (drop-append_seam u post)

  pub part_inside : length u ≤ length s
  part_inside = omega (arith, sym (length-drop at s) ∙ ap length e ∙ length-append u post)

-- Where the value of an item starts.
abbrev pub start_at : ℕ → ℕ → ℕ
start_at at n = at + (length (shortest n) + 1)

item-ahead : (tag : ℕ) (v post : List ℕ) → item_octets tag v ++ post ≡ tag ∷ (shortest (length v) ++ (v ++ post))
unfolding item_octets
item-ahead tag v post = ap (λ (u : List ℕ). tag ∷ u) (append_assoc (shortest (length v)) v post)

value-behind : (v post : List ℕ) → length v ≤ length (v ++ post)
value-behind v post = rw length-append (omega arith)

value_end : (at tag : ℕ) (v : List ℕ) → start_at at (length v) + length v ≡ at + length (item_octets tag v)
value_end at tag v = rw length-item (omega arith)

-- In a file that is not too long each length can be told.
module _ (s : List ℕ) (short : length s ≤ octets_limit) (at tag : ℕ) (v post : List ℕ) (e : drop at s ≡ item_octets tag v ++ post) where
  value_short : length v < 2 ^ 32
  value_short = omega (arith, part_inside s at (item_octets tag v) post e, length-item tag v)

  pub value_known : value_at s (start_at at (length v)) (length v) ≡ v
  value_known =
      let n = shortest (length v) in
      let x : drop (start_at at (length v)) s ≡ v ++ post = rw (← drop-drop (length n + 1) at s, e ∙ item-ahead tag v post, add-one) (drop-append_seam n (v ++ post)) in
      rw x (take-append_seam v post)

  pub next_plain : usual false tag ≡ true → next_of s (cursor at Root) ≡ Ok (Some (Plain at tag (start_at at (length v)) (length v), cursor (at + length (item_octets tag v)) Root))
  unfolding next_of next_in item_of
  next_plain t = rw (e ∙ item-ahead tag v post, head_known false tag (length v) (v ++ post) t value_short (value-behind v post), value_end at tag v)

-- ---- groups

-- The items u of a group lie between a place and the group's end, and post follows them.
pub record Inside (s : List ℕ) (at end : ℕ) (u post : List ℕ) : Type 0 where
  pub rest : drop at s ≡ u ++ post
  pub stop : end ≡ at + length u

group_ahead : (k : ℕ) (u post : List ℕ) → group k u ++ post ≡ 0x3F ∷ (channel_octets k ++ (shortest (length u) ++ (u ++ post)))
group_ahead k u post = simp append_assoc

module _ (s : List ℕ) (short : length s ≤ octets_limit) (at k : ℕ) (small : k < 16384) (u post : List ℕ) (e : drop at s ≡ group k u ++ post) where
  items_short : length u < 2 ^ 32
  items_short = omega (arith, simp length-append at (part_inside s at (group k u) post e))

  pub next_group : next_of s (cursor at Root) ≡ Ok (Some (Item.Group at k, cursor (at + head_octets k (length u)) (Within.Definite k (at + head_octets k (length u) + length u))))
  unfolding next_of next_in item_of
  next_group = rw (e ∙ group_ahead k u post, group_known k (length u) (u ++ post) small items_short (value-behind u post))

  pub inside_first : Inside s (at + head_octets k (length u)) (at + head_octets k (length u) + length u) u post
  inside_first =
      let c = channel_octets k in
      let n = shortest (length u) in
      record {
        rest = rw (← drop-drop (head_octets k (length u)) at s, e ∙ group_ahead k u post, add-one, drop-append-add c (n ++ (u ++ post)) (length n)) (drop-append_seam n (u ++ post));
        stop = refl;
      }

-- The first item of a group's rest.
module _ (s : List ℕ) (short : length s ≤ octets_limit) (at end k tag : ℕ) (v u post : List ℕ) (i : Inside s at end (item_octets tag v ++ u) post) where
  pub member_rest : drop at s ≡ item_octets tag v ++ (u ++ post)
  member_rest = i.rest ∙ append_assoc (item_octets tag v) u post

  pub next_member : usual true tag ≡ true → next_of s (cursor at (Within.Definite k end)) ≡ Ok (Some (Member at k tag (start_at at (length v)) (length v), cursor (at + length (item_octets tag v)) (Within.Definite k end)))
  unfolding next_of next_in item_of
  next_member t =
      let l : at < end = omega (arith, i.stop, length-append (item_octets tag v) u, length-item tag v) in
      let d : end - at ≡ length (item_octets tag v ++ u) = omega (arith, i.stop) in
      let x : take (end - at) (drop at s) ≡ tag ∷ (shortest (length v) ++ (v ++ u)) = rw (i.rest, d, take-append_seam (item_octets tag v ++ u) post) (item-ahead tag v u) in
      simp (lt-ltb at end l) (rw (x, head_known true tag (length v) (v ++ u) t (value_short s short at tag v (u ++ post) member_rest) (value-behind v u), value_end at tag v))

  pub inside-next : Inside s (at + length (item_octets tag v)) end u post
  inside-next = record { rest = rest_known s at (item_octets tag v) (u ++ post) member_rest; stop = omega (arith, i.stop, length-append (item_octets tag v) u) }

pub next-left : (s : List ℕ) (at end k : ℕ) (post : List ℕ) → Inside s at end [] post → next_of s (cursor at (Within.Definite k end)) ≡ next_of s (cursor at Root)
unfolding next_of
next-left s at end k post i = simp (le-ltb at end (omega arith))

pub next_end : (s : List ℕ) (at : ℕ) → drop at s ≡ [] → next_of s (cursor at Root) ≡ Ok None
unfolding next_of next_in
next_end s at e = rw e
