-- An item whose last octet has come is the item that the whole file has there, with the same effect.
--     found_item      the item with this head, and the cursor behind it
--     value-is        the value of a complete item
--     effect_same, after_same    by its kept octets
--     effect_frame    a waveform's effect
--     effect_bare     no other item asks for a frame
-- Assumes nothing.
use Rattle.effects.specs.declared.Effect.{Effect}
use Rattle.heads.specs.declared.ItemHead.{ItemHead}
use Rattle.std.specs.Prelude.{Result, Ok, Option, Some}
use Prim.Native.Nat.{ℕ, zero, suc, ◌+◌, ◌≤◌}
use mathlib.Core.Path.{◌≡◌, refl, sym, ◌∙◌, ap, subst}
use mathlib.Core.List.{List, ◌++◌}
use mathlib.Core.Bool.{Bool, true, false}
use native.Mathlib.Omega.{arith}
use borrow.Author.Tests.{eq-eqb, ne_eqb}
use lib.Dec.{eqb}
use lib.ListN.{length, take, drop, length-drop, length-take}
use lib.Seq.{drop-append-le, take-append-le, take_all, take-length}
use Rattle.octets.specs.Pick.{pick, both}
use Rattle.octets.proofs.Pick.{pick_cases}
use Rattle.heads.specs.declared.Refusal.{Refusal}
use Rattle.items.specs.declared.Cursor.{Cursor}
use Rattle.items.specs.declared.Within.{Within}
use Rattle.items.specs.declared.Within.TheVariants.{Root}
use Rattle.items.specs.declared.Item.{Item}
use Rattle.items.specs.declared.Item.TheVariants.{Plain, Member, Mark}
use Rattle.items.specs.Walk.{cursor, ends_open, item_of}
use Rattle.definitions.specs.Define.{tagged}
use Rattle.standing.specs.declared.Standing.{Standing}
use Rattle.effects.specs.Effects.{value_at, effect_of, plain_effect, member_effect, root_effect}
use Rattle.effects.proofs.Kept.{plain_kept, member_kept}
use Rattle.verdict.specs.Verdict.{place_at}
use Rattle.verdict.proofs.Steps.{waveform_found}
use Rattle.link.specs.Link.{kept_limit, item_at, within_after}

-- Outside a group a waveform is no value.
abbrev pub Plainly : Within → ℕ → Type 0
Plainly Within.Root tag = tag ≡ 0x1E → ⊥
Plainly (Within.Definite channel end) tag = Unit {0}
Plainly (Within.Open channel place) tag = Unit {0}

-- ---- the item that the file has

abbrev pub item_found : Within → ℕ → ℕ → ℕ → ℕ → Item
item_found Within.Root at tag start len = Plain at tag (at + start) len
item_found (Within.Definite channel end) at tag start len = Member at channel tag (at + start) len
item_found (Within.Open channel group) at tag start len = pick (ends_open tag len) (Mark at) (Member at channel tag (at + start) len)

pub found_item : (w : Within) (at tag start len : ℕ) → item_of at w (Ok (ItemHead.Primitive tag start len)) ≡ Ok (Some (item_found w at tag start len, cursor (at + start + len) (within_after w tag len)))
unfolding item_of within_after
found_item Within.Root at tag start len = refl
found_item (Within.Definite channel end) at tag start len = refl
found_item (Within.Open channel group) at tag start len = by (ends_open tag len)
  where
    by : (b : Bool)
        → ◌≡◌ {A = Result (Option (Item × Cursor)) Refusal}
        (pick b (Ok (Some (Mark at, cursor (at + start + len) Root))) (Ok (Some (Member at channel tag (at + start) len, cursor (at + start + len) (Within.Open channel group)))))
        (Ok (Some (pick b (Mark at) (Member at channel tag (at + start) len), cursor (at + start + len) (pick b Root (Within.Open channel group)))))
    by true = refl
    by false = refl

pub found_place : (w : Within) (at tag start len : ℕ) → place_at (item_found w at tag start len) ≡ at
unfolding place_at
found_place Within.Root at tag start len = refl
found_place (Within.Definite channel end) at tag start len = refl
found_place (Within.Open channel group) at tag start len = pick_cases (λ (i : Item). place_at i ≡ at) (ends_open tag len) (λ _. refl) (λ _. refl)

-- ---- its value

pub value-is : (s t : List ℕ) (from len : ℕ) → from + len ≡ length s → value_at (s ++ t) from len ≡ drop from s
value-is s t from len e =
    let b : from ≤ length s = omega arith in
    let d : length (drop from s) ≡ len = rw length-drop (omega arith) in
    let k : len ≤ length (drop from s) = omega arith in
    let m : length (drop from s) ≤ len = omega arith in
    rw (drop-append-le from s t b, take-append-le len (drop from s) t k) (take_all len (drop from s) m)

-- Some octets are kept of a value that has some.
kept-none : (v : List ℕ) (n : ℕ) → length v ≡ n → eqb (length (take kept_limit v)) 0 ≡ eqb n 0
kept-none v zero e = eq-eqb (length (take kept_limit v)) 0 (rw length-take (omega arith))
kept-none v (suc n) e = ne_eqb (length (take kept_limit v)) 0 (rw length-take (λ z. omega arith)) ∙ sym (ne_eqb (suc n) 0 (λ z. omega arith))

module _ (s t : List ℕ) (st : Standing) (at tag start len : ℕ) (e : at + start + len ≡ length s) where
  abbrev pub kept_of : List ℕ
  kept_of = take kept_limit (drop (at + start) s)

  value-kept : take kept_limit (value_at (s ++ t) (at + start) len) ≡ take (length kept_of) kept_of
  value-kept = ap (take kept_limit) (value-is s t (at + start) len e) ∙ sym (take-length kept_of)

  ends_same : ends_open tag (length kept_of) ≡ ends_open tag len
  ends_same = let d : length (drop (at + start) s) ≡ len = rw length-drop (omega arith) in ap (both (eqb tag 0)) (kept-none (drop (at + start) s) len d)

  member_same : (channel : ℕ) → effect_of (s ++ t) st (Member at channel tag (at + start) len) ≡ effect_of kept_of st (Member at channel tag 0 (length kept_of))
  unfolding effect_of
  member_same channel =
      ap (pick (eqb st.counted 0) (Ok Effect.Pass))
      (member_kept st channel (value_at (s ++ t) (at + start) len) (tagged tag)
      ∙ ap (λ (v : List ℕ). member_effect st channel v (tagged tag)) value-kept)

  pub effect_same : (w : Within) → Plainly w tag → effect_of (s ++ t) st (item_found w at tag start len) ≡ effect_of kept_of st (item_at w at tag (length kept_of))
  unfolding effect_of item_at
  effect_same Within.Root o =
      plain_kept st tag (at + start) 0 (value_at (s ++ t) (at + start) len) o (tagged tag)
      ∙ ap (λ (v : List ℕ). plain_effect st tag 0 v (tagged tag)) value-kept
  effect_same (Within.Definite channel end) o = member_same channel
  effect_same (Within.Open channel group) o = rw ends_same (by (ends_open tag len))
    where
      by : (b : Bool) → effect_of (s ++ t) st (pick b (Mark at) (Member at channel tag (at + start) len)) ≡ effect_of kept_of st (pick b (Mark at) (Member at channel tag 0 (length kept_of)))
      by true = refl
      by false = member_same channel

  pub after_same : (w : Within) → within_after w tag len ≡ within_after w tag (length kept_of)
  unfolding within_after
  after_same Within.Root = refl
  after_same (Within.Definite channel end) = refl
  after_same (Within.Open channel group) = rw ends_same refl

-- ---- a waveform

pub effect_frame : (s : List ℕ) (st : Standing) (at from len : ℕ) → from + len ≤ length s → effect_of s st (Plain at 0x1E from len) ≡ Ok (Effect.Frame from len)
unfolding effect_of plain_effect root_effect tagged
effect_frame s st at from len h = ap (λ (n : ℕ). Ok (Effect.Frame from n)) (rw (length-take, length-drop) (omega arith))

-- No other item asks for a frame.
abbrev IsPlain : ℕ → Item → Type 0
IsPlain tag (Item.Plain place other start len) = other ≡ tag
IsPlain tag (Item.Group place channel) = ⊥
IsPlain tag (Item.Member place channel other start len) = ⊥
IsPlain tag (Item.Mark place) = ⊥

frame_plain : (s : List ℕ) (st : Standing) (i : Item) {start len : ℕ} → effect_of s st i ≡ Ok (Effect.Frame start len) → IsPlain 0x1E i
frame_plain s st i e = let w = waveform_found s st i (sym e) refl in subst (IsPlain 0x1E) (sym w.item) w.waves

pub effect_bare : (s : List ℕ) (st : Standing) (w : Within) (at tag start len : ℕ) → Plainly w tag → {from long : ℕ} → effect_of s st (item_found w at tag start len) ≡ Ok (Effect.Frame from long) → ⊥
effect_bare s st Within.Root at tag start len o e = o (frame_plain s st _ e)
effect_bare s st (Within.Definite channel end) at tag start len o e = frame_plain s st _ e
effect_bare s st (Within.Open channel group) at tag start len o e = by (ends_open tag len) (frame_plain s st _ e)
  where
    by : (b : Bool) → IsPlain 0x1E (pick b (Mark at) (Member at channel tag (at + start) len)) → ⊥
    by true z = z
    by false z = z

pub group_bare : (s : List ℕ) (st : Standing) (place channel : ℕ) {from long : ℕ} → effect_of s st (Item.Group place channel) ≡ Ok (Effect.Frame from long) → ⊥
group_bare s st place channel e = frame_plain s st _ e
