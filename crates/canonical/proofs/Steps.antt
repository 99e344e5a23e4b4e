-- Interpreting known items, one after the other.
--     goes_on, leaves, ends    one item further; a group's end; the file's end
--     Led, led_then            the items up to a place are read, and what follows them is known
--     plain_led                an item outside a group
--     members_led, group_led   the items of a group, and a group with them
-- Assumes nothing.
use Prim.Native.Nat.{ℕ, ◌+◌, ◌-◌, ◌≤◌, ◌<◌}
use mathlib.Core.Path.{◌≡◌, refl, sym, ◌∙◌, ap}
use mathlib.Core.List.{List, [], ◌∷◌, ◌++◌}
use mathlib.Core.Bool.{true, false}
use native.Mathlib.Omega.{arith}
use borrow.Author.Tests.{lt-ltb, ne_eqb}
use lib.ListN.{length, get_or, set, drop}
use lib.Seq.{set-set, set-get_or, get_or-set_same}
use Rattle.std.specs.Prelude.{Ok, Some, None}
use Rattle.items.specs.declared.Item.{Item}
use Rattle.items.specs.declared.Within.{Within}
use Rattle.items.specs.declared.Within.TheVariants.{Root}
use Rattle.items.specs.declared.Cursor.{Cursor}
use Rattle.items.specs.Walk.{cursor, follow, walk, next_of, items_from}
use Rattle.items.proofs.Walks.{items_found, items_end}
use Rattle.settings.specs.declared.Settings.{Settings}
use Rattle.definitions.specs.declared.Attribute.{Attribute}
use Rattle.settings.specs.declared.Change.{Change}
use Rattle.settings.specs.Settings.{zero_settings, applied}
use Rattle.definitions.specs.Define.{tagged, defined}
use Rattle.layout.specs.Frame.{Frame}
use Rattle.standing.specs.declared.Standing.{Standing}
use Rattle.effects.specs.Effects.{effect_of, plain_effect, root_effect, member_effect, one_effect, group_effect}
use Rattle.standing.specs.Standing.{octets_limit}
use Rattle.verdict.specs.Verdict.{State, state, Verdict, accepted, goes, one_changed, carried, place_at, after_item, interpret}
use Rattle.groups.specs.Item.{item_octets}
use Rattle.canonical.proofs.Known.{usual, group, start_at, head_octets, Inside, rest_known, value_known, next_plain, next_group, inside_first, next_member, member_rest, inside-next, next-left}

-- The verdict on the items from a cursor on.
abbrev pub from : List ℕ → State → Cursor → Verdict
from s x c = interpret s x (items_from s c)

module _ (s : List ℕ) (x : State) (c : Cursor) where
  pub goes_on : (y : State) (i : Item) (d : Cursor) → next_of s c ≡ Ok (Some (i, d)) → carried s x (effect_of s x.standing i) ≡ goes y → from s x c ≡ from s y d
  unfolding interpret after_item
  goes_on y i d e h =
      ap (interpret s x) (items_found s c i d e) ∙ ap (after_item (λ z. interpret s z (items_from s d)) (place_at i)) h

  pub ends : next_of s c ≡ Ok None → from s x c ≡ accepted x.frames
  unfolding interpret
  ends e = ap (interpret s x) (items_end s c e)

pub leaves : (s : List ℕ) (x : State) (at : ℕ) (v w : Within) → next_of s (cursor at v) ≡ next_of s (cursor at w) → from s x (cursor at v) ≡ from s x (cursor at w)
unfolding items_from walk
leaves s x at v w e = ap (λ n. interpret s x (follow (walk (length s - at) s) n)) e

-- From state x at a cursor the items lead to state y outside groups, and post is left.
pub record Led (s : List ℕ) (x : State) (c : Cursor) (y : State) (post : List ℕ) : Type 0 where
  pub place : ℕ
  pub rest : drop place s ≡ post
  pub same : from s x c ≡ from s y (cursor place Root)

pub led_then : {s : List ℕ} {x y z : State} {c : Cursor} {u post : List ℕ} → Led s x c y u → ((at : ℕ) → drop at s ≡ u → Led s y (cursor at Root) z post) → Led s x c z post
led_then a f =
    let b = f a.place a.rest in
    record { place = b.place; rest = b.rest; same = a.same ∙ b.same }

-- ---- the items of a group

-- The column "Tag" of the table.
unfoldable pub tag_of : Attribute → ℕ
tag_of Attribute.Block = 0x04
tag_of Attribute.Class = 0x08
tag_of Attribute.Lead = 0x09
tag_of Attribute.DataType = 0x0A
tag_of Attribute.Interval = 0x0B
tag_of Attribute.Resolution = 0x0C
tag_of Attribute.Offset = 0x0D
tag_of Attribute.Null = 0x12

tag_usual : (a : Attribute) → usual true (tag_of a) ≡ true
unfolding tag_of usual
tag_usual Attribute.Block = refl
tag_usual Attribute.Class = refl
tag_usual Attribute.Lead = refl
tag_usual Attribute.DataType = refl
tag_usual Attribute.Interval = refl
tag_usual Attribute.Resolution = refl
tag_usual Attribute.Offset = refl
tag_usual Attribute.Null = refl

tag_defines : (a : Attribute) → tagged (tag_of a) ≡ Some a
unfolding tag_of tagged
tag_defines Attribute.Block = refl
tag_defines Attribute.Class = refl
tag_defines Attribute.Lead = refl
tag_defines Attribute.DataType = refl
tag_defines Attribute.Interval = refl
tag_defines Attribute.Resolution = refl
tag_defines Attribute.Offset = refl
tag_defines Attribute.Null = refl

-- A definition in a group: its attribute, its value, and what it asks for.
pub record Definition : Type 0 where
  pub attribute : Attribute
  pub value : List ℕ
  pub change : Change

-- The items of some definitions, one after the other.
abbrev pub definitions_octets : List Definition → List ℕ
definitions_octets [] = []
definitions_octets (p ∷ ps) = item_octets (tag_of p.attribute) p.value ++ definitions_octets ps

-- A record with all of them applied.
abbrev pub changed : List Definition → Settings → Settings
changed [] c = c
changed (p ∷ ps) c = changed ps (applied p.change c)

-- Each value says what its definition asks for, big-endian.
abbrev pub AllDefine : Settings → List Definition → Type 0
AllDefine base [] = Unit {0}
AllDefine base (p ∷ ps) = (defined p.attribute false base p.value ≡ Ok p.change) × AllDefine base ps

-- A state in which the record of channel k is c.
abbrev pub with_channel : Standing → List Settings → List Frame → ℕ → Settings → State
with_channel st table fs k c = state st (set table k c) fs

-- ---- what the items lead to

module _ (s : List ℕ) (short : length s ≤ octets_limit) where
  pub plain_led : (x y : State) (at tag : ℕ) (v post : List ℕ) → drop at s ≡ item_octets tag v ++ post → usual false tag ≡ true → tagged tag ≡ None → carried s x (root_effect x.standing tag (start_at at (length v)) v) ≡ goes y → Led s x (cursor at Root) y post
  unfolding effect_of plain_effect
  plain_led x y at tag v post e t o h =
      record {
        place = at + length (item_octets tag v);
        rest = rest_known s at (item_octets tag v) post e;
        same = goes_on s x (cursor at Root) y _ _ (next_plain s short at tag v post e t) (rw (value_known s short at tag v post e, o) h);
      }

  -- A channel below a count that stands, in a big-endian file.
  module _ (st : Standing) (k : ℕ) (big : st.little ≡ false) (below : k < st.counted) (table : List Settings) (known : k < length table) (fs : List Frame) where
    one_again : (f : Settings → Settings) (c : Settings) → one_changed k f (set table k c) ≡ set table k (f c)
    unfolding one_changed
    one_again f c = rw (get_or-set_same table k c zero_settings known) (set-set table k c (f c))

    member_goes : (at end : ℕ) (p : Definition) (u post : List ℕ) (c : Settings) → Inside s at end (item_octets (tag_of p.attribute) p.value ++ u) post → defined p.attribute false st.root p.value ≡ Ok p.change → from s (with_channel st table fs k c) (cursor at (Within.Definite k end)) ≡ from s (with_channel st table fs k (applied p.change c)) (cursor (at + length (item_octets (tag_of p.attribute) p.value)) (Within.Definite k end))
    unfolding effect_of member_effect one_effect carried
    member_goes at end p u post c i d =
        let a = p.attribute in
        let n : st.counted ≡ 0 → ⊥ = λ z. omega arith in
        goes_on s (with_channel st table fs k c) (cursor at (Within.Definite k end)) (with_channel st table fs k (applied p.change c)) _ _
        (next_member s short at end k (tag_of a) p.value u post i (tag_usual a))
        (rw (value_known s short at (tag_of a) p.value (u ++ post) (member_rest s short at end k (tag_of a) p.value u post i), tag_defines a, big, d, ne_eqb st.counted 0 n, one_again (applied p.change) c))

    pub members_led : (at end : ℕ) (ps : List Definition) (post : List ℕ) (c : Settings) → Inside s at end (definitions_octets ps) post → AllDefine st.root ps → Led s (with_channel st table fs k c) (cursor at (Within.Definite k end)) (with_channel st table fs k (changed ps c)) post
    members_led at end [] post c i d =
        record { place = at; rest = i.rest; same = leaves s (with_channel st table fs k c) at (Within.Definite k end) Root (next-left s at end k post i) }
    members_led at end (p ∷ ps) post c i d =
        let t = tag_of p.attribute in
        let a = members_led (at + length (item_octets t p.value)) end ps post (applied p.change c) (inside-next s short at end k t p.value (definitions_octets ps) post i) d.1 in
        record { place = a.place; rest = a.rest; same = member_goes at end p (definitions_octets ps) post c i d.0 ∙ a.same }

    pub group_led : (at : ℕ) (ps : List Definition) (post : List ℕ) → k < 16384 → drop at s ≡ group k (definitions_octets ps) ++ post → AllDefine st.root ps → Led s (state st table fs) (cursor at Root) (with_channel st table fs k (changed ps (get_or table k zero_settings))) post
    unfolding effect_of group_effect carried
    group_led at ps post small e d =
        let c = get_or table k zero_settings in
        let n : st.counted ≡ 0 → ⊥ = λ z. omega arith in
        let same = ap (λ (t : List Settings). state st t fs) (sym (set-get_or table k zero_settings)) in
        let u = definitions_octets ps in
        let a = members_led (at + head_octets k (length u)) (at + head_octets k (length u) + length u) ps post c (inside_first s short at k small u post e) d in
        let h = goes_on s (state st table fs) (cursor at Root) (with_channel st table fs k c) _ _ (next_group s short at k small u post e) (simp (ne_eqb st.counted 0 n, lt-ltb k st.counted below) (ap goes same)) in
        record { place = a.place; rest = a.rest; same = h ∙ a.same }
