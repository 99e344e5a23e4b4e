-- What the octets of one whole item lead to, one after the other.
--     leads-none, leads-both        nothing, and octets one after the other
--     told_none, on-cursor          what is told behind an octet; where an item that leads on leads to
--     head-inside                   a head lies in the octets
--     definite_item, open_item      a group's head
--     primitive_item                an item with a value
-- Assumes nothing.
use Rattle.heads.specs.declared.Fault.{Fault}
use Rattle.effects.specs.declared.Effect.{Effect}
use Rattle.heads.specs.declared.ItemHead.{ItemHead}
use Rattle.std.specs.Prelude.{Result, Ok, Err, Option, Some, None}
use Prim.Native.Nat.{ℕ, zero, suc, ◌+◌, ◌-◌, ◌≤◌, ◌<◌}
use mathlib.Core.Path.{◌≡◌, refl, sym, ◌∙◌, ap, subst}
use mathlib.Core.List.{List, [], ◌∷◌, ◌++◌}
use mathlib.Core.Bool.{Bool, true, false}
use native.Mathlib.Omega.{arith}
use borrow.Author.Tests.{le-ltb, lt-leb, eq-eqb, ne_eqb}
use lib.Dec.{ltb}
use lib.ListN.{length, get_or, take, drop, length-take, length-drop, take-append-drop}
use lib.Seq.{take-suc, take-add, take-length, length-take-le}
use Rattle.octets.specs.Pick.{pick}
use Rattle.octets.proofs.Pick.{both_false}
use Rattle.octets.proofs.Laws.{drop-take}
use Rattle.heads.specs.Head.{form_of}
use Rattle.heads.proofs.Heads.{FormWithin, form_within}
use Rattle.heads.proofs.Forms.{FormKept, form_keeps, FormEnds, FormExact, form_exact}
use Rattle.items.specs.declared.Within.{Within}
use Rattle.items.specs.declared.Cursor.{Cursor}
use Rattle.items.specs.declared.Item.{Item}
use Rattle.items.specs.Walk.{cursor, stands_in, is_inside, ends_open}
use Rattle.standing.specs.declared.Standing.{Standing}
use Rattle.standing.specs.Standing.{octets_limit}
use Rattle.effects.specs.Effects.{effect_of}
use Rattle.walk.specs.declared.Waveform.{Waveform}
use Rattle.walk.specs.Advance.{Stand, Turn, on, stops, framed_turn, effect_turn}
use Rattle.walking.specs.Steps.{no_waveform}
use Rattle.link.specs.Link.{Phase, head, value, Link, link, cut_at, group_at, marked, kept_limit, item_at, within_after, done_item, valued, primitive_begins, group_begins, turned_by, confined, seen_in, headed, taken_in, is_decided, stepped, fed_with, Given, gives_in, gives, given_by}
use Rattle.link.specs.Feed.{is_head, due}
use Rattle.link.specs.Runs.{Steady, Leads}
use Rattle.link.proofs.Item.{Plainly, item_found, kept_of, effect_same, after_same}
use Rattle.link.proofs.Fed.{kept_on}
use Rattle.link.proofs.Results.{fed_pieces_lem, given_pieces_lem}
use Rattle.link.proofs.Runs.{value_run}
use Rattle.ahead.specs.Ahead.{told_behind, between, Fits, item_here, around_behind, IsItem}

-- ---- octets one after the other

pub leads-none : (l : Link) → Leads l [] l []
unfolding fed_with given_by
leads-none l = record { steady = tt; link = refl; given = refl }

steady-both : (u : List ℕ) (l : Link) (w : List ℕ) → Steady l u → Steady (fed_with l u) w → Steady l (u ++ w)
unfolding fed_with
steady-both [] l w p q = q
steady-both (b ∷ u) l w p q = (p.0, p.1, steady-both u (stepped l b) w p.2 q)

pub leads-both : {l m n : Link} {u w : List ℕ} {g h : List Given} → Leads l u m g → Leads m w n h → Leads l (u ++ w) n (g ++ h)
leads-both {l} {u = u} {w = w} {g = g} p q =
    record {
      steady = steady-both u l w p.steady (subst (λ (x : Link). Steady x w) (sym p.link) q.steady);
      link = fed_pieces_lem l u w ∙ ap (λ (x : Link). fed_with x w) p.link ∙ q.link;
      given = given_pieces_lem l u w ∙ (λ i. p.given i ++ given_by (p.link i) w) ∙ ap (λ (x : List Given). g ++ x) q.given;
    }

-- One octet that gives nothing out, with which no settings are due.
leads_octet : (l m : Link) (b : ℕ) → is_decided l.phase ≡ false → stepped l b ≡ m → gives l b ≡ [] → is_decided m.phase ≡ false → ltb 0 m.frame.channels ≡ false → Leads l (b ∷ []) m []
unfolding fed_with given_by due
leads_octet l m b e s g d k = record { steady = (e, rw (s, d, k) (both_false (is_head l.phase)), tt); link = s; given = rw g refl }

-- Behind an octet no frame is told any more.
pub told_none : (k : ℕ) (v : Waveform) → 0 < k → told_behind k v ≡ no_waveform
told_none k v h = let z : k ≡ 0 → ⊥ = λ e. omega arith in ap (λ (t : Bool). pick t v no_waveform) (ne_eqb k 0 z)

-- A turn that leads on leads to this cursor.
abbrev OnAt : Cursor → Turn → Type 0
OnAt c (on y) = y.cursor ≡ c
OnAt c (stops z) = Unit {0}

framed_at : (x : Stand) (c : Cursor) (place start len : ℕ) (f : Result (ℕ × Standing) Fault) → OnAt c (framed_turn x c place start len f)
unfolding framed_turn
framed_at x c place start len (Ok (n, st)) = tt
framed_at x c place start len (Err n) = tt

on-at : (x : Stand) (c : Cursor) (place : ℕ) (e : Result Effect Fault) → OnAt c (effect_turn x c place e)
unfolding effect_turn
on-at x c place (Ok Effect.Pass) = refl
on-at x c place (Ok (Effect.Order little)) = refl
on-at x c place (Ok (Effect.Count n)) = refl
on-at x c place (Ok (Effect.Sequences n)) = refl
on-at x c place (Ok (Effect.Start z)) = refl
on-at x c place (Ok (Effect.All d)) = refl
on-at x c place (Ok (Effect.One channel d)) = refl
on-at x c place (Ok (Effect.Frame start len)) = framed_at x c place start len _
on-at x c place (Err n) = tt

-- An item that leads on leaves the cursor behind it.
pub on-cursor : (x : Stand) (c : Cursor) (place : ℕ) (e : Result Effect Fault) (y : Stand) → effect_turn x c place e ≡ on y → y.cursor ≡ c
on-cursor x c place e y g = subst (OnAt c) g (on-at x c place e)

-- ---- a head among octets

-- A head that is there takes n octets.
abbrev Ends : ℕ → Result (Option ItemHead) Fault → Type 0
Ends n (Ok None) = ⊥
Ends n (Err k) = ⊥
Ends n (Ok (Some (ItemHead.Primitive tag start len))) = start ≡ n
Ends n (Ok (Some (ItemHead.Definite channel start len))) = start ≡ n
Ends n (Ok (Some (ItemHead.Open channel start))) = start ≡ n

ends-within : (n m : ℕ) (f : Result (Option ItemHead) Fault) → Ends n f → FormWithin m f → (0 < n) × (n ≤ m)
ends-within n m (Ok None) e w = absurd e
ends-within n m (Err k) e w = absurd e
ends-within n m (Ok (Some (ItemHead.Primitive tag start len))) e w = (omega arith, omega arith)
ends-within n m (Ok (Some (ItemHead.Definite channel start len))) e w = (omega arith, omega arith)
ends-within n m (Ok (Some (ItemHead.Open channel start))) e w = (omega arith, omega arith)

ends_once : (n m : ℕ) (f : Result (Option ItemHead) Fault) → Ends n f → FormEnds m f → n ≡ m
ends_once n m (Ok None) e w = absurd e
ends_once n m (Err k) e w = absurd e
ends_once n m (Ok (Some (ItemHead.Primitive tag start len))) e w = omega arith
ends_once n m (Ok (Some (ItemHead.Definite channel start len))) e w = omega arith
ends_once n m (Ok (Some (ItemHead.Open channel start))) e w = omega arith

module _ (inside : Bool) (q : List ℕ) (f : Result (Option ItemHead) Fault) (n : ℕ) (whole : Ends n f) (is : form_of inside q ≡ f) where
  pub head-inside : (0 < n) × (n ≤ length q)
  head-inside = ends-within n (length q) f whole (subst (FormWithin (length q)) is (form_within inside q))

  -- Before its last octet more are wanted.
  form_wants : (k : ℕ) → k < n → form_of inside (take k q) ≡ (Ok None)
  form_wants k h = by (form_of inside (take k q)) (form_within inside (take k q)) (rw (take-append-drop k q, is) at (form_keeps inside (take k q) (drop k q)))
    where
      never : (g : Result (Option ItemHead) Fault) → f ≡ g → FormWithin (length (take k q)) g → g ≡ (Ok None)
      never g e w = let z = ends-within n (length (take k q)) g (subst (Ends n) e whole) w in let y : ⊥ = omega (arith, z.1, length-take k q) in absurd y

      by : (g : Result (Option ItemHead) Fault) → FormWithin (length (take k q)) g → FormKept g f → g ≡ (Ok None)
      by (Ok None) w e = refl
      by (Err fault) w e = never (Err fault) e w
      by (Ok (Some (ItemHead.Primitive tag start len))) w e = never (Ok (Some (ItemHead.Primitive tag start len))) e w
      by (Ok (Some (ItemHead.Definite channel start len))) w e = never (Ok (Some (ItemHead.Definite channel start len))) e w
      by (Ok (Some (ItemHead.Open channel start))) w e = never (Ok (Some (ItemHead.Open channel start))) e w

  -- From its last octet on it is there.
  form_from : (d k : ℕ) → k + d ≡ length q → n ≤ k → form_of inside (take k q) ≡ f
  form_from zero k e h = let z : k ≡ length q = omega arith in ap (λ (j : ℕ). form_of inside (take j q)) z ∙ ap (form_of inside) (take-length q) ∙ is
  form_from (suc d) k e h = by (form_from d (suc k) (omega arith) (omega arith))
    where
      last : ℕ
      last = get_or q k 0

      before : (g : Result (Option ItemHead) Fault) → FormExact (length (take k q) + 1) g f → FormKept g f → g ≡ f
      before (Ok None) w s = let z = ends_once n (length (take k q) + 1) f whole w in let y : ⊥ = omega (arith, z, length-take-le k q (omega arith)) in absurd y
      before (Err fault) w s = sym s
      before (Ok (Some (ItemHead.Primitive tag start len))) w s = sym s
      before (Ok (Some (ItemHead.Definite channel start len))) w s = sym s
      before (Ok (Some (ItemHead.Open channel start))) w s = sym s

      by : form_of inside (take (suc k) q) ≡ f → form_of inside (take k q) ≡ f
      by later =
          let next : form_of inside (take k q ++ (last ∷ [])) ≡ f = ap (form_of inside) (sym (take-suc q k 0 (omega arith))) ∙ later in
          before (form_of inside (take k q)) (rw next at (form_exact inside (take k q) last)) (rw next at (form_keeps inside (take k q) (last ∷ [])))

  pub form_there : form_of inside (take n q) ≡ f
  form_there = form_from (length q - n) n (omega (arith, head-inside.1)) (omega arith)

-- ---- one item

-- The same effect wherever the item stands.
place_free : (s : List ℕ) (st : Standing) (w : Within) (a b tag start len : ℕ) → effect_of s st (item_here w a tag start len) ≡ effect_of s st (item_here w b tag start len)
unfolding effect_of item_here
place_free s st Within.Root a b tag start len = refl
place_free s st (Within.Definite channel end) a b tag start len = refl
place_free s st (Within.Open channel group) a b tag start len = by (ends_open tag len)
  where
    by : (t : Bool) → effect_of s st (pick t (Item.Mark a) (Item.Member a channel tag start len)) ≡ effect_of s st (pick t (Item.Mark b) (Item.Member b channel tag start len))
    by true = refl
    by false = refl

found_here : (w : Within) (tag start len : ℕ) → item_found w 0 tag start len ≡ item_here w 0 tag start len
unfolding item_here
found_here Within.Root tag start len = let z : 0 + start ≡ start = omega arith in ap (λ (k : ℕ). Item.Plain 0 tag k len) z
found_here (Within.Definite channel end) tag start len = let z : 0 + start ≡ start = omega arith in ap (λ (k : ℕ). Item.Member 0 channel tag k len) z
found_here (Within.Open channel group) tag start len =
    let z : 0 + start ≡ start = omega arith in ap (λ (k : ℕ). pick (ends_open tag len) (Item.Mark 0) (Item.Member 0 channel tag k len)) z

at_here : (w : Within) (place tag len : ℕ) → item_at w place tag len ≡ item_here w place tag 0 len
unfolding item_at item_here
at_here Within.Root place tag len = refl
at_here (Within.Definite channel end) place tag len = refl
at_here (Within.Open channel group) place tag len = refl

module _ (x : Stand) (around : ℕ) (q : List ℕ) where
  abbrev from : ℕ
  from = x.cursor.at

  abbrev within : Within
  within = stands_in from x.cursor.within

  module _ (near : from + length q ≤ octets_limit) (fits : Fits within (from + length q)) where
    -- Behind so many octets of its head.
    abbrev in_head : ℕ → Waveform → Link
    in_head k v = link (from + k) x around (told_behind k v) (head (take k q))

    -- What the octets of a head say is what they say where they have come to.
    seen_more : (w : Within) (k n : ℕ) → Fits w n → k < n → seen_in w k (Ok None) ≡ (Ok None)
    unfolding seen_in confined
    seen_more Within.Root k n f h = refl
    seen_more (Within.Definite channel end) k n f h = let z : end - k ≡ 0 → ⊥ = λ e. omega arith in simp (ne_eqb (end - k) 0 z)
    seen_more (Within.Open channel place) k n f h = refl

    seen_primitive : (w : Within) (k n tag start len : ℕ) → Fits w n → k + len ≤ n → seen_in w k (Ok (Some (ItemHead.Primitive tag start len))) ≡ Ok (Some (ItemHead.Primitive tag start len))
    unfolding seen_in confined
    seen_primitive Within.Root k n tag start len f h = refl
    seen_primitive (Within.Definite channel end) k n tag start len f h = let z : len ≤ end - k = omega arith in simp (le-ltb (end - k) len z)
    seen_primitive (Within.Open channel place) k n tag start len f h = refl

    seen_definite : (w : Within) (k channel start len : ℕ) → seen_in w k (Ok (Some (ItemHead.Definite channel start len))) ≡ Ok (Some (ItemHead.Definite channel start len))
    unfolding seen_in confined
    seen_definite Within.Root k channel start len = refl
    seen_definite (Within.Definite c end) k channel start len = refl
    seen_definite (Within.Open c place) k channel start len = refl

    seen_open : (w : Within) (k channel start : ℕ) → seen_in w k (Ok (Some (ItemHead.Open channel start))) ≡ Ok (Some (ItemHead.Open channel start))
    unfolding seen_in confined
    seen_open Within.Root k channel start = refl
    seen_open (Within.Definite c end) k channel start = refl
    seen_open (Within.Open c place) k channel start = refl

    -- One octet more of a head.
    head-steps : (k : ℕ) (v : Waveform) (f : Result (Option ItemHead) Fault) → k < length q → seen_in within (from + suc k) (form_of (is_inside within) (take (suc k) q)) ≡ f
        → stepped (in_head k v) (get_or q k 0) ≡ headed (take (suc k) q) f (link (from + suc k) x around no_waveform (head (take k q)))
    unfolding stepped taken_in
    head-steps k v f h e =
        let count : from + k + 1 ≡ from + suc k = omega arith in
        let l : from + k < octets_limit = omega arith in
        simp (lt-leb octets_limit (from + k) l)
        ((λ i. headed (sym (take-suc q k 0 h) i) (seen_in within (count i) (form_of (is_inside within) (sym (take-suc q k 0 h) i))) (link (count i) x around no_waveform (head (take k q))))
        ∙ ap (λ (g : Result (Option ItemHead) Fault). headed (take (suc k) q) g (link (from + suc k) x around no_waveform (head (take k q)))) e)

    head-gives : (k : ℕ) (v : Waveform) (b : ℕ) → k < length q → gives (in_head k v) b ≡ []
    unfolding gives gives_in
    head-gives k v b h = let l : from + k < octets_limit = omega arith in simp (lt-leb octets_limit (from + k) l)

    -- With it the link stands at m.
    head_octet : (k : ℕ) (v : Waveform) (f : Result (Option ItemHead) Fault) (m : Link) → k < length q → seen_in within (from + suc k) (form_of (is_inside within) (take (suc k) q)) ≡ f
        → headed (take (suc k) q) f (link (from + suc k) x around no_waveform (head (take k q))) ≡ m
        → is_decided m.phase ≡ false → ltb 0 m.frame.channels ≡ false
        → Leads (between x around v) (take k q) (in_head k v) [] → Leads (between x around v) (take (suc k) q) m []
    head_octet k v f m h e s d c p =
        subst (λ (u : List ℕ). Leads (between x around v) u m []) (sym (take-suc q k 0 h))
        (leads-both p (leads_octet (in_head k v) m (get_or q k 0) refl (head-steps k v f h e ∙ s) (head-gives k v (get_or q k 0) h) d c))

    module _ (f : Result (Option ItemHead) Fault) (n : ℕ) (whole : Ends n f) (is : form_of (is_inside within) q ≡ f) where
      -- All octets of a head but the last.
      head_run : (k : ℕ) (v : Waveform) → k < n → Leads (between x around v) (take k q) (in_head k v) []
      unfolding headed
      head_run zero v h =
          let z : from ≡ from + 0 = omega arith in
          subst (λ (m : ℕ). Leads (between x around v) [] (link m x around v (head [])) []) z (leads-none (between x around v))
      head_run (suc k) v h =
          let t = head-inside (is_inside within) q f n whole is in
          let none = told_none (suc k) v (omega arith) in
          head_octet k v (Ok None) (in_head (suc k) v) (omega (arith, t.1))
          (ap (seen_in within (from + suc k)) (form_wants (is_inside within) q f n whole is (suc k) h) ∙ seen_more within (from + suc k) (from + length q) fits (omega (arith, t.1)))
          (ap (λ (a : Waveform). link (from + suc k) x around a (head (take (suc k) q))) (sym none)) refl (ap (λ (a : Waveform). ltb 0 a.channels) none) (head_run k v (omega arith))

      -- The last.
      head_last : (v : Waveform) (m : Link) → seen_in within (from + n) f ≡ f → ((p : Phase) → headed (take n q) f (link (from + n) x around no_waveform p) ≡ m) → is_decided m.phase ≡ false → ltb 0 m.frame.channels ≡ false
          → Leads (between x around v) (take n q) m []
      head_last v m e s d c = by n refl (head-inside (is_inside within) q f n whole is)
        where
          by : (j : ℕ) → n ≡ j → (0 < n) × (n ≤ length q) → Leads (between x around v) (take n q) m []
          by zero g t = let z : ⊥ = omega (arith, t.0) in absurd z
          by (suc k) g t =
              subst (λ (j : ℕ). Leads (between x around v) (take j q) m []) (sym g)
              (head_octet k v f m (omega (arith, t.1))
              (subst (λ (j : ℕ). seen_in within (from + j) (form_of (is_inside within) (take j q)) ≡ f) g (ap (seen_in within (from + n)) (form_there (is_inside within) q f n whole is) ∙ e))
              (subst (λ (j : ℕ). headed (take j q) f (link (from + j) x around no_waveform (head (take k q))) ≡ m) g (s (head (take k q))))
              d c (head_run k v (omega arith)))

    -- An effect that leads on.
    module _ (c : Cursor) (e : Result Effect Fault) (y : Stand) (leads : effect_turn x c from e ≡ on y) where
      abbrev behind : Link
      behind = link c.at y (around_behind x around c) no_waveform (head [])

      turned : (left : ℕ) (p : Phase) → turned_by left (effect_turn x c from e) (marked (link c.at x around no_waveform p)) ≡ behind
      unfolding turned_by
      turned left p =
          ap (λ (t : Turn). turned_by left t (marked (link c.at x around no_waveform p))) leads
          ∙ ap (λ (d : Cursor). link c.at y (group_at (stands_in d.at d.within) (cut_at within from around)) no_waveform (head [])) (on-cursor x c from e y leads)

    -- A group's head.
    module _ (channel start : ℕ) (w : Within) (f : Result (Option ItemHead) Fault) (whole : Ends start f) (is : form_of (is_inside within) q ≡ f) (seen : seen_in within (from + start) f ≡ f) (left : ℕ)
        (begins : (p : Phase) → headed (take start q) f (link (from + start) x around no_waveform p) ≡ group_begins left channel w (link (from + start) x around no_waveform p)) where
      group_item : IsItem q x around start (cursor (from + start) w) (effect_of q x.standing (Item.Group from channel))
      unfolding effect_of
      group_item =
          let t = head-inside (is_inside within) q f start whole is in
          record {
            inside = t.1;
            some = t.0;
            place = refl;
            leads = λ y g v.
                head_last f start whole is v (behind (cursor (from + start) w) (effect_of q x.standing (Item.Group from channel)) y g) seen
                (λ p. begins p ∙ turned (cursor (from + start) w) (effect_of q x.standing (Item.Group from channel)) y g left p)
                refl refl;
          }

    pub definite_item : (channel start len : ℕ) → form_of (is_inside within) q ≡ Ok (Some (ItemHead.Definite channel start len))
        → IsItem q x around start (cursor (from + start) (Within.Definite channel (from + start + len))) (effect_of q x.standing (Item.Group from channel))
    unfolding headed
    definite_item channel start len is =
        group_item channel start (Within.Definite channel (from + start + len)) (Ok (Some (ItemHead.Definite channel start len))) refl is (seen_definite within (from + start) channel start len) len (λ p. refl)

    pub open_item : (channel start : ℕ) → form_of (is_inside within) q ≡ Ok (Some (ItemHead.Open channel start))
        → IsItem q x around start (cursor (from + start) (Within.Open channel from)) (effect_of q x.standing (Item.Group from channel))
    unfolding headed
    open_item channel start is =
        group_item channel start (Within.Open channel from) (Ok (Some (ItemHead.Open channel start))) refl is (seen_open within (from + start) channel start) 0 (λ p. refl)

    -- An item with a value that is all there, and no waveform.
    module _ (tag start len : ℕ) (is : form_of (is_inside within) q ≡ Ok (Some (ItemHead.Primitive tag start len))) (there : start + len ≤ length q) (plain : tag ≡ 0x1E → ⊥) where
      abbrev cursor_behind : Cursor
      cursor_behind = cursor (from + start + len) (within_after within tag len)

      abbrev effect_here : (Result Effect Fault)
      effect_here = effect_of q x.standing (item_here within from tag start len)

      abbrev value_here : List ℕ
      value_here = take len (drop start q)

      plainly : (w : Within) → Plainly w tag
      plainly Within.Root = plain
      plainly (Within.Definite channel end) = tt
      plainly (Within.Open channel place) = tt

      -- The octets of the item, and what is kept of its value.
      abbrev octets : List ℕ
      octets = take (start + len) q

      octets-long : 0 + start + len ≡ length octets
      octets-long = let k = length-take-le (start + len) q there in omega arith

      kept_here : kept_of octets (drop (start + len) q) x.standing 0 tag start len octets-long ≡ take kept_limit value_here
      kept_here =
          let z : 0 + start ≡ start = omega arith in
          let d : start + len - start ≡ len = omega arith in
          ap (λ (k : ℕ). take kept_limit (drop k octets)) z ∙ ap (take kept_limit) (drop-take start (start + len) q ∙ ap (λ (k : ℕ). take k (drop start q)) d)

      effect_here_lem : effect_of (take kept_limit value_here) x.standing (item_at within from tag (length (take kept_limit value_here))) ≡ effect_here
      effect_here_lem =
          let t = drop (start + len) q in
          let st = x.standing in
          let v = take kept_limit value_here in
          ap (effect_of v st) (at_here within from tag (length v)) ∙ place_free v st within from 0 tag 0 (length v) ∙ ap (effect_of v st) (sym (at_here within 0 tag (length v)))
          ∙ (λ i. effect_of (sym kept_here i) st (item_at within 0 tag (length (sym kept_here i))))
          ∙ sym (effect_same octets t st 0 tag start len octets-long within (plainly within))
          ∙ ap (λ (s : List ℕ). effect_of s st (item_found within 0 tag start len)) (take-append-drop (start + len) q)
          ∙ ap (effect_of q st) (found_here within tag start len) ∙ place_free q st within 0 from tag start len

      after_here : within_after within tag (length (take kept_limit value_here)) ≡ within_after within tag len
      after_here =
          ap (λ (v : List ℕ). within_after within tag (length v)) (sym kept_here)
          ∙ sym (after_same octets (drop (start + len) q) x.standing 0 tag start len octets-long within)

      module _ (y : Stand) (leads : effect_turn x cursor_behind from effect_here ≡ on y) where
        abbrev there-behind : Link
        there-behind = behind cursor_behind effect_here y leads

        -- With its value's last octet.
        done : (p : Phase) → done_item tag (take kept_limit value_here) (link (from + start + len) x around no_waveform p) ≡ there-behind
        done p =
            (λ i. turned_by 0 (effect_turn x (cursor (from + start + len) (after_here i)) from (effect_here_lem i)) (marked (link (from + start + len) x around no_waveform p)))
            ∙ turned cursor_behind effect_here y leads 0 p

        abbrev at_value : ℕ → Phase → Link
        at_value k p = link k x around no_waveform p

        -- With its head's last octet.
        begins_none : len ≡ 0 → (p : Phase) → headed (take start q) (Ok (Some (ItemHead.Primitive tag start len))) (at_value (from + start) p) ≡ there-behind
        unfolding headed primitive_begins valued
        begins_none e p =
            let n : from + start ≡ from + start + len = omega arith in
            let none : [] ≡ take kept_limit value_here = sym (ap (λ (k : ℕ). take kept_limit (take k (drop start q))) e) in
            simp (ne_eqb tag 0x1E plain, eq-eqb len 0 e) ((λ i. done_item tag (none i) (at_value (n i) p)) ∙ done p)

        begins_some : (len ≡ 0 → ⊥) → (p : Phase) → headed (take start q) (Ok (Some (ItemHead.Primitive tag start len))) (at_value (from + start) p) ≡ at_value (from + start) (value tag len [])
        unfolding headed primitive_begins valued
        begins_some h p = simp (ne_eqb tag 0x1E plain, ne_eqb len 0 h)

        -- The octets of its value.
        value-steps : (k left : ℕ) (kept : List ℕ) (b : ℕ) → k < octets_limit → left ≡ 1 → k + 1 ≡ from + start + len → take kept_limit (kept ++ (b ∷ [])) ≡ take kept_limit value_here
            → stepped (at_value k (value tag left kept)) b ≡ there-behind
        unfolding stepped taken_in valued
        value-steps k left kept b h e n v =
            let z : left - 1 ≡ 0 = omega arith in
            simp (lt-leb octets_limit k h, eq-eqb (left - 1) 0 z)
            ((λ i. done_item tag (v i) (at_value (n i) (value tag left kept))) ∙ done (value tag left kept))

        value-gives : (k left : ℕ) (kept : List ℕ) (b : ℕ) → k < octets_limit → gives (at_value k (value tag left kept)) b ≡ []
        unfolding gives gives_in
        value-gives k left kept b h = simp (lt-leb octets_limit k h)

        value-leads : (j : ℕ) → len ≡ suc j → Leads (at_value (from + start) (value tag len [])) value_here there-behind []
        value-leads j e =
            let d = drop start q in
            let l : length d ≡ length q - start = length-drop start q in
            let u = take j d in
            let b = get_or d j 0 in
            let n : length u ≡ j = length-take-le j d (omega arith) in
            let short : length u < len = omega arith in
            let last : take len d ≡ u ++ (b ∷ []) = ap (λ (k : ℕ). take k d) e ∙ take-suc d j 0 (omega arith) in
            let first = value_run (from + start) x around no_waveform tag len [] u (omega arith) short (omega arith) in
            let kept = take kept_limit u in
            let k = from + start + length u in
            let left = len - length u in
            let lies : k < octets_limit = omega arith in
            subst (λ (z : List ℕ). Leads (at_value (from + start) (value tag len [])) z there-behind []) (sym last)
            (leads-both first
            (leads_octet (at_value k (value tag left kept)) there-behind b refl
            (value-steps k left kept b lies (omega arith) (omega arith) (kept_on kept_limit u (b ∷ []) ∙ ap (take kept_limit) (sym last)))
            (value-gives k left kept b lies) refl refl))

        all-leads : (v : Waveform) → Leads (between x around v) (take (start + len) q) there-behind []
        all-leads v = by len refl
          where
            whole : seen_in within (from + start) (Ok (Some (ItemHead.Primitive tag start len))) ≡ Ok (Some (ItemHead.Primitive tag start len))
            whole = seen_primitive within (from + start) (from + length q) tag start len fits (omega arith)

            by : (j : ℕ) → len ≡ j → Leads (between x around v) (take (start + len) q) there-behind []
            by zero e =
                let z : start ≡ start + len = omega arith in
                subst (λ (k : ℕ). Leads (between x around v) (take k q) there-behind []) z
                (head_last (Ok (Some (ItemHead.Primitive tag start len))) start refl is v there-behind whole (begins_none e) refl refl)
            by (suc j) e =
                subst (λ (u : List ℕ). Leads (between x around v) u there-behind []) (sym (take-add start len q))
                (leads-both
                (head_last (Ok (Some (ItemHead.Primitive tag start len))) start refl is v (at_value (from + start) (value tag len [])) whole (begins_some (λ z. omega arith)) refl refl)
                (value-leads j e))

      pub primitive_item : IsItem q x around (start + len) cursor_behind effect_here
      primitive_item =
          let t = head-inside (is_inside within) q (Ok (Some (ItemHead.Primitive tag start len))) start refl is in
          record { inside = there; some = omega (arith, t.0); place = omega arith; leads = all-leads }
