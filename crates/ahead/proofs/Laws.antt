-- Laws of what is promised of items that are taken at once.
--     goes_none, goes-both    nothing, and items one after the other
--     goes_near               what is left is within the limit
--     reach_in, reach_of_lem      the octets up to the end of the group around
--     item-goes               one item that leads on
--     valued-item, definite_here, open_here    the item at the front of octets
-- Assumes nothing.
use Rattle.heads.specs.declared.Fault.{Fault}
use Rattle.effects.specs.declared.Effect.{Effect}
use Rattle.heads.specs.declared.ItemHead.{ItemHead}
use Prim.Native.Nat.{ℕ, zero, suc, ◌+◌, ◌-◌, ◌≤◌}
use mathlib.Core.Path.{◌≡◌, refl, sym, ◌∙◌, ap, subst}
use mathlib.Core.List.{List, [], ◌∷◌}
use mathlib.Core.Bool.{Bool}
use native.Mathlib.Omega.{arith}
use types.Run.{OneOf, miss}
use denote.Enum.Declared.{tag_of}
use borrow.Author.Tests.{ltb-true}
use lib.Dec.{ltb}
use lib.ListN.{length, take, drop, length-take, length-drop}
use lib.Seq.{take-add, take-take}
use Rattle.octets.proofs.Pick.{pick_cases}
use Rattle.heads.specs.Head.{form_of}
use Rattle.items.specs.declared.Within.{Within}
use Rattle.items.specs.declared.Cursor.{Cursor}
use Rattle.items.specs.declared.Item.{Item}
use Rattle.items.specs.Walk.{cursor, stands_in, is_inside}
use Rattle.standing.specs.Standing.{octets_limit}
use Rattle.effects.specs.Effects.{effect_of}
use Rattle.effects.specs.contracts.Effect.{the_type}
use Rattle.walk.specs.declared.Waveform.{Waveform}
use Rattle.walk.specs.declared.Head.{Head}
use Rattle.walk.specs.Advance.{Stand, on, effect_turn, stand_of}
use Rattle.walk.proofs.Turns.{past_then}
use Rattle.std.specs.Prelude.{Result, Ok, Err, Option, Some, None}
use Rattle.heads.specs.declared.Refusal.{Refusal}
use Rattle.taking.specs.declared.Taken.{Taken}
use Rattle.taking.specs.Takes.{turn_by, Takes}
use Rattle.walking.specs.Steps.{no_waveform}
use Rattle.link.specs.Link.{Link, link, head, cut_at, group_at, within_after}
use Rattle.link.specs.Runs.{Leads}
use Rattle.ahead.specs.declared.Ahead.{Ahead}
use Rattle.ahead.specs.Ahead.{told_behind, between, GoesAhead, Fits, reach_of, item_here, around_behind, IsItem, IsHead}
use Rattle.ahead.proofs.Whole.{leads-none, leads-both, told_none, on-cursor, head-inside, definite_item, open_item, primitive_item}

-- ---- items one after the other

pub goes_none : (u : List ℕ) (h : Head) (around : ℕ) (t : List ℕ) {r : Ahead} → r ≡ record { head = h; around = around; taken = 0 } → GoesAhead u h around t r t
goes_none u h around t e =
    let x = stand_of h t in
    let z : h.cursor.at ≡ h.cursor.at + 0 = omega arith in
    rw e
    (record {
      inside = omega arith;
      long = refl;
      past = record { same = λ m _. refl };
      place = z;
      leads = λ v. subst (λ (n : ℕ). Leads (between x around v) [] (link n x around v (head [])) []) z (leads-none (between x around v));
    })

told_still : (m : ℕ) → told_behind m no_waveform ≡ no_waveform
told_still zero = refl
told_still (suc m) = told_none (suc m) no_waveform (omega arith)

told_both : (k m : ℕ) (v : Waveform) → told_behind m (told_behind k v) ≡ told_behind (k + m) v
told_both zero zero v = refl
told_both zero (suc m) v = told_none (suc m) v (omega arith) ∙ sym (told_none (0 + suc m) v (omega arith))
told_both (suc k) m v = ap (told_behind m) (told_none (suc k) v (omega arith)) ∙ told_still m ∙ sym (told_none (suc k + m) v (omega arith))

pub goes-both : {u rest : List ℕ} {h : Head} {around : ℕ} {t t' t'' : List ℕ} {r s : Ahead} → GoesAhead u h around t r t' → rest ≡ drop r.taken u → GoesAhead rest r.head r.around t' s t''
    → GoesAhead u h around t (record { head = s.head; around = s.around; taken = r.taken + s.taken }) t''
goes-both {u} {h = h} {around} {t} {t'} {t''} {r} {s} p e f =
    let q = subst (λ (w : List ℕ). GoesAhead w r.head r.around t' s t'') e f in
    let k = r.taken in
    let m = s.taken in
    let n = h.cursor.at in
    let z : n + k + m ≡ n + (k + m) = omega arith in
    record {
      inside = omega (arith, p.inside, q.inside, length-drop k u);
      long = q.long ∙ p.long;
      past = past_then p.long p.past q.past;
      place = q.place ∙ ap (λ (j : ℕ). j + m) p.place ∙ z;
      leads = λ v.
          subst (λ (w : List ℕ). Leads (between (stand_of h t) around v) w (link (n + (k + m)) (stand_of s.head t'') s.around (told_behind (k + m) v) (head [])) []) (sym (take-add k m u))
          (leads-both (p.leads v)
          (subst (λ (l : Link). Leads (link (n + k) (stand_of r.head t') r.around (told_behind k v) (head [])) (take m (drop k u)) l [])
          (λ i. link (z i) (stand_of s.head t'') s.around (told_both k m v i) (head []))
          (subst (λ (j : ℕ). Leads (link j (stand_of r.head t') r.around (told_behind k v) (head [])) (take m (drop k u)) (link (j + m) (stand_of s.head t'') s.around (told_behind m (told_behind k v)) (head [])) [])
          p.place (q.leads (told_behind k v)))));
    }

-- What is left of the octets is within 15's limit too.
pub goes_near : {u rest : List ℕ} {h : Head} {around : ℕ} {t t' : List ℕ} {r : Ahead} → GoesAhead u h around t r t' → rest ≡ drop r.taken u → h.cursor.at + length u ≤ octets_limit → r.head.cursor.at + length rest ≤ octets_limit
goes_near {u} {r = r} p e near = omega (arith, p.inside, p.place, length-drop r.taken u, ap length e)

-- ---- up to the end of a group

goes_cut : {u : List ℕ} {h : Head} {around : ℕ} {t t' : List ℕ} {r : Ahead} (m : ℕ) → GoesAhead (take m u) h around t r t' → GoesAhead u h around t r t'
goes_cut {u} {h} {around} {t} {t'} {r} m p =
    let k = r.taken in
    let n = length-take m u in
    record {
      inside = omega (arith, p.inside);
      long = p.long;
      past = p.past;
      place = p.place;
      leads = λ v.
          subst (λ (w : List ℕ). Leads (between (stand_of h t) around v) w (link (h.cursor.at + k) (stand_of r.head t') r.around (told_behind k v) (head [])) [])
          (take-take k m u (omega (arith, p.inside))) (p.leads v);
    }

goes_reach : {u : List ℕ} {h : Head} {around : ℕ} {t t' : List ℕ} {r : Ahead} (at : ℕ) (w : Within) → GoesAhead (reach_of u at w) h around t r t' → GoesAhead u h around t r t'
unfolding reach_of
goes_reach at Within.Root p = p
goes_reach at (Within.Definite channel end) p = goes_cut (end - at) p
goes_reach at (Within.Open channel place) p = p

-- Octets up to there are no more, and end by the group's end.
reach_short : (u : List ℕ) (at : ℕ) (w : Within) → length (reach_of u at w) ≤ length u
unfolding reach_of
reach_short u at Within.Root = omega arith
reach_short u at (Within.Definite channel end) = omega (arith, length-take (end - at) u)
reach_short u at (Within.Open channel place) = omega arith

reach_fits : (u : List ℕ) (at : ℕ) (w : Within) → Fits (stands_in at w) (at + length (reach_of u at (stands_in at w)))
unfolding reach_of
reach_fits u at Within.Root = tt
reach_fits u at (Within.Definite channel end) =
    pick_cases (λ (w : Within). Fits w (at + length (reach_of u at w))) (ltb at end) (λ e. omega (arith, ltb-true at end e, length-take (end - at) u)) (λ _. tt)
reach_fits u at (Within.Open channel place) = tt

-- The same of what calls answer.
pub reach_in : (u : List ℕ) (h : Head) {w : Within} {q : List ℕ} → h.cursor.at + length u ≤ octets_limit → w ≡ stands_in h.cursor.at h.cursor.within → q ≡ reach_of u h.cursor.at w
    → (h.cursor.at + length q ≤ octets_limit) × Fits (stands_in h.cursor.at h.cursor.within) (h.cursor.at + length q)
reach_in u h {w} near ew eq =
    let at = h.cursor.at in
    let e = eq ∙ ap (reach_of u at) ew in (
      omega (arith, near, ap length eq, reach_short u at w),
      subst (λ (z : List ℕ). Fits (stands_in at h.cursor.within) (at + length z)) (sym e) (reach_fits u at h.cursor.within),
    )

pub reach_of_lem : {u : List ℕ} {h : Head} {around : ℕ} {t t' : List ℕ} {r : Ahead} {w : Within} {q : List ℕ} → w ≡ stands_in h.cursor.at h.cursor.within → q ≡ reach_of u h.cursor.at w → GoesAhead q h around t r t' → GoesAhead u h around t r t'
reach_of_lem {h = h} {around} {t} {t'} {r} {w} ew eq p = goes_reach h.cursor.at w (subst (λ (z : List ℕ). GoesAhead z h around t r t') eq p)

-- ---- one item

-- The effects that lead on.
abbrev pub on_keys : List ℕ
on_keys = 0 ∷ 1 ∷ 2 ∷ 3 ∷ 4 ∷ 5 ∷ 6 ∷ []

goes_on : (x : Stand) (c : Cursor) (place : ℕ) (e : Effect) → OneOf on_keys (tag_of the_type e) → (y : Stand) × (effect_turn x c place (Ok e) ≡ on y)
unfolding effect_turn
goes_on x c place Effect.Pass h = (_, refl)
goes_on x c place (Effect.Order little) h = (_, refl)
goes_on x c place (Effect.Count n) h = (_, refl)
goes_on x c place (Effect.Sequences n) h = (_, refl)
goes_on x c place (Effect.Start z) h = (_, refl)
goes_on x c place (Effect.All ch) h = (_, refl)
goes_on x c place (Effect.One channel ch) h = (_, refl)
goes_on x c place (Effect.Frame start len) h = absurd (miss on_keys 7 tt h)

turn_on : (w : Result (Option Waveform) Refusal) (x y : Stand) → turn_by w x ≡ on y → x ≡ y
turn_on (Ok None) x y e = cc
turn_on (Ok (Some v)) x y e = let z : ◌≡◌ {A = ℕ} 0 1 = cc in let n : ⊥ = omega arith in absurd n
turn_on (Err r) x y e = let z : ◌≡◌ {A = ℕ} 0 1 = cc in let n : ⊥ = omega arith in absurd n

pub item-goes : {u : List ℕ} {h : Head} {around k : ℕ} {t t' : List ℕ} {c : Cursor} {e : Result Effect Fault} {asked : Effect} {r : Taken} {w : Within} {mark : ℕ} → IsItem u (stand_of h t) around k c e → e ≡ Ok asked → OneOf on_keys (tag_of the_type asked)
    → Takes t h c h.cursor.at (Ok asked) r t' → w ≡ stands_in h.cursor.at h.cursor.within → mark ≡ group_at (stands_in c.at c.within) (cut_at w h.cursor.at around)
    → GoesAhead u h around t (record { head = r.head; around = mark; taken = k }) t'
item-goes {u} {h} {around} {k} {t} {t'} {c} {e} {asked} {r} {w} {mark} p is o q ew em =
    let x = stand_of h t in
    let y = stand_of r.head t' in
    let n = h.cursor.at in
    let g = goes_on x c n asked o in
    let same : effect_turn x c n e ≡ on y = ap (effect_turn x c n) is ∙ g.1 ∙ ap on (sym (turn_on r.went y g.0 (q.same ∙ g.1))) in
    let around-is : around_behind x around c ≡ mark = sym (em ∙ ap (λ (z : Within). group_at (stands_in c.at c.within) (cut_at z n around)) ew) in
    record {
      inside = p.inside;
      long = q.long;
      past = q.past;
      place = ap (λ (d : Cursor). d.at) (on-cursor x c n e y same) ∙ p.place;
      leads = λ v.
          subst (λ (l : Link). Leads (between x around v) (take k u) l []) (λ i. link (p.place i) y (around-is i) (sym (told_none k v p.some) i) (head []))
          (p.leads y same v);
    }

-- ---- the item at the front of octets

-- What a call says of the head.
pub head-is : {u : List ℕ} {h : Head} {w : Within} {inside : Bool} {f g : Result (Option ItemHead) Fault} → h.cursor.at + length u ≤ octets_limit → Fits (stands_in h.cursor.at h.cursor.within) (h.cursor.at + length u)
    → w ≡ stands_in h.cursor.at h.cursor.within → inside ≡ is_inside w → g ≡ form_of inside u → g ≡ f → IsHead u h f
head-is {u} near fits ew eb eg ef = record { near = near; fits = fits; is = ap (λ (b : Bool). form_of b u) (sym (eb ∙ ap is_inside ew)) ∙ sym eg ∙ ef }

-- It lies in the octets.
pub primitive_inside : {u : List ℕ} {h : Head} {tag start len : ℕ} → IsHead u h (Ok (Some (ItemHead.Primitive tag start len))) → start ≤ length u
primitive_inside {u} {h} {tag} {start} {len} p = (head-inside (is_inside (stands_in h.cursor.at h.cursor.within)) u (Ok (Some (ItemHead.Primitive tag start len))) start refl p.is).1

pub definite_inside : {u : List ℕ} {h : Head} {channel start len : ℕ} → IsHead u h (Ok (Some (ItemHead.Definite channel start len))) → start ≤ length u
definite_inside {u} {h} {channel} {start} {len} p = (head-inside (is_inside (stands_in h.cursor.at h.cursor.within)) u (Ok (Some (ItemHead.Definite channel start len))) start refl p.is).1

pub open_inside : {u : List ℕ} {h : Head} {channel start : ℕ} → IsHead u h (Ok (Some (ItemHead.Open channel start))) → start ≤ length u
open_inside {u} {h} {channel} {start} p = (head-inside (is_inside (stands_in h.cursor.at h.cursor.within)) u (Ok (Some (ItemHead.Open channel start))) start refl p.is).1

module _ (u : List ℕ) (h : Head) (around : ℕ) (t : List ℕ) where
  abbrev here : Within
  here = stands_in h.cursor.at h.cursor.within

  module _ (tag start len : ℕ) (p : IsHead u h (Ok (Some (ItemHead.Primitive tag start len)))) where
    pub valued-item : {w after : Within} {i : Item} {e : Result Effect Fault} → (tag ≡ 0x1E → ⊥) → start + len ≤ length u → w ≡ here → i ≡ item_here w h.cursor.at tag start len → e ≡ effect_of u h.standing i → after ≡ within_after w tag len
        → IsItem u (stand_of h t) around (start + len) (cursor (h.cursor.at + start + len) after) e
    valued-item {e = e} n l ew ei ee ea =
        let at = h.cursor.at in
        subst (λ (d : Cursor). IsItem u (stand_of h t) around (start + len) d e) (sym (ap (cursor (at + start + len)) (ea ∙ ap (λ (z : Within). within_after z tag len) ew)))
        (subst (λ (f : Result Effect Fault). IsItem u (stand_of h t) around (start + len) (cursor (at + start + len) (within_after here tag len)) f)
        (sym (ee ∙ ap (effect_of u h.standing) (ei ∙ ap (λ (z : Within). item_here z at tag start len) ew)))
        (primitive_item (stand_of h t) around u p.near p.fits tag start len p.is l n))

  pub definite_here : (channel start len : ℕ) {e : Result Effect Fault} → IsHead u h (Ok (Some (ItemHead.Definite channel start len))) → e ≡ effect_of u h.standing (Item.Group h.cursor.at channel)
      → IsItem u (stand_of h t) around start (cursor (h.cursor.at + start) (Within.Definite channel (h.cursor.at + start + len))) e
  definite_here channel start len p ee = rw ee (definite_item (stand_of h t) around u p.near p.fits channel start len p.is)

  pub open_here : (channel start : ℕ) {e : Result Effect Fault} → IsHead u h (Ok (Some (ItemHead.Open channel start))) → e ≡ effect_of u h.standing (Item.Group h.cursor.at channel)
      → IsItem u (stand_of h t) around start (cursor (h.cursor.at + start) (Within.Open channel h.cursor.at)) e
  open_here channel start p ee = rw ee (open_item (stand_of h t) around u p.near p.fits channel start p.is)
