-- What an item of a stretch is among the items of the file.
--     Ordinary                  the tags that a stretch may hold
--     Leads, step-leads         what a step of a stretch tells of its item
--     item_in, next_short        the item that the walk finds there
--     value-ahead, extent-later its value, and what lies ahead behind it
-- Assumes nothing.
use Rattle.std.specs.Prelude.{Result, Ok, Err, Option, Some, None}
use Rattle.heads.specs.declared.Fault.{Fault}
use Rattle.heads.specs.declared.Length.{Length}
use Rattle.heads.specs.declared.ItemHead.{ItemHead}
use mathlib.Core.Path.{◌≡◌, refl, sym, ap, subst, ◌∙◌}
use mathlib.Core.List.{List, [], ◌∷◌}
use mathlib.Core.Bool.{Bool, true, false}
use mathlib.Core.Logic.{◌⊎◌, inl, inr}
use Prim.Native.Nat.{ℕ, ◌+◌, ◌-◌, ◌/◌, ◌%◌, ◌≤◌, ◌<◌}
use native.Mathlib.Omega.{arith}
use borrow.Author.Tests.{lt-ltb, ltb-false, eqb-true, eqb-false, ne_eqb}
use lib.Dec.{eqb, ltb}
use lib.ListN.{length, get_or, take, drop, length-take, length-drop}
use lib.Seq.{get_or-drop, drop-drop, take-take}
use Rattle.octets.proofs.Laws.{drop-take}
use Rattle.octets.specs.Pick.{pick, both}
use Rattle.octets.proofs.Pick.{pick_cases, both_false}
use Rattle.items.specs.declared.Item.{Item}
use Rattle.items.specs.declared.Item.TheVariants.{Plain, Member}
use Rattle.items.specs.declared.Within.{Within}
use Rattle.heads.specs.Head.{unknown_context, root_only, primitive_form, head_of}
use Rattle.items.specs.Walk.{cursor, stands_in, is_inside, extent, item_of, next_in, next_of}
use Rattle.heads.proofs.Heads.{length_short, form_primitive, primitive_fits}
use Rattle.settings.specs.declared.Settings.{Settings}
use Rattle.definitions.specs.declared.Attribute.{Attribute}
use Rattle.settings.specs.declared.Change.{Change}
use Rattle.settings.specs.Settings.{applied}
use Rattle.definitions.specs.Define.{tagged, defined}
use Rattle.stretch.specs.Stretch.{Step, leaves, ends, stepped_over, leaves_by, step_by, step_of}

-- ---- tags

-- A tag that is known, may stand anywhere, and ends nothing.
pub record Ordinary (tag : ℕ) : Type 0 where
  pub known : unknown_context tag ≡ false
  pub anywhere : root_only tag ≡ false
  pub single : eqb tag 0x3F ≡ false
  pub nonzero : eqb tag 0 ≡ false

abbrev OrdinaryIf : ℕ → Bool → Type 0
OrdinaryIf tag true = Ordinary tag
OrdinaryIf tag false = Unit {0}

over_ordinary : (tag : ℕ) → OrdinaryIf tag (stepped_over tag)
unfolding stepped_over unknown_context root_only
over_ordinary tag =
    pick_cases (OrdinaryIf tag) (eqb tag 0x00) (λ _. tt)
    (λ a. pick_cases (OrdinaryIf tag) (eqb tag 0x01) (λ _. tt)
    (λ b. pick_cases (OrdinaryIf tag) (eqb tag 0x05) (λ _. tt)
    (λ c. pick_cases (OrdinaryIf tag) (eqb tag 0x06) (λ _. tt)
    (λ d. pick_cases (OrdinaryIf tag) (eqb tag 0x07) (λ _. tt)
    (λ e. pick_cases (OrdinaryIf tag) (eqb tag 0x0E) (λ _. tt)
    (λ f. pick_cases (OrdinaryIf tag) (eqb tag 0x1E) (λ _. tt)
    (λ g. by a b c d e f g (eqb (tag / 32 % 2) 0) refl)))))))
  where
    by : eqb tag 0x00 ≡ false → eqb tag 0x01 ≡ false → eqb tag 0x05 ≡ false → eqb tag 0x06 ≡ false → eqb tag 0x07 ≡ false → eqb tag 0x0E ≡ false → eqb tag 0x1E ≡ false → (t : Bool) → eqb (tag / 32 % 2) 0 ≡ t → OrdinaryIf tag t
    by a b c d e f g false h = tt
    by a b c d e f g true h =
        let z = eqb-true (tag / 32 % 2) 0 h in
        let m = ne_eqb tag 0x3F (λ q. let r : (0x3F / 32) % 2 ≡ 0 = ap (λ (k : ℕ). k / 32 % 2) (sym q) ∙ z in let y : ⊥ = omega arith in y) in
        record { known = simp z; anywhere = simp (b, c, d, e, f, g, m); single = m; nonzero = a }

abbrev OrdinaryBy : ℕ → Option Attribute → Type 0
OrdinaryBy tag (Some a) = Ordinary tag
OrdinaryBy tag None = Unit {0}

defined_ordinary : (tag : ℕ) → OrdinaryBy tag (tagged tag)
unfolding tagged unknown_context root_only
defined_ordinary tag =
    pick_cases (OrdinaryBy tag) (eqb tag 0x04) (is 0x04 (record { known = refl; anywhere = refl; single = refl; nonzero = refl }))
    (λ _. pick_cases (OrdinaryBy tag) (eqb tag 0x08) (is 0x08 (record { known = refl; anywhere = refl; single = refl; nonzero = refl }))
    (λ _. pick_cases (OrdinaryBy tag) (eqb tag 0x09) (is 0x09 (record { known = refl; anywhere = refl; single = refl; nonzero = refl }))
    (λ _. pick_cases (OrdinaryBy tag) (eqb tag 0x0A) (is 0x0A (record { known = refl; anywhere = refl; single = refl; nonzero = refl }))
    (λ _. pick_cases (OrdinaryBy tag) (eqb tag 0x0B) (is 0x0B (record { known = refl; anywhere = refl; single = refl; nonzero = refl }))
    (λ _. pick_cases (OrdinaryBy tag) (eqb tag 0x0C) (is 0x0C (record { known = refl; anywhere = refl; single = refl; nonzero = refl }))
    (λ _. pick_cases (OrdinaryBy tag) (eqb tag 0x0D) (is 0x0D (record { known = refl; anywhere = refl; single = refl; nonzero = refl }))
    (λ _. pick_cases (OrdinaryBy tag) (eqb tag 0x12) (is 0x12 (record { known = refl; anywhere = refl; single = refl; nonzero = refl }))
    (λ _. tt))))))))
  where
    is : (k : ℕ) → Ordinary k → eqb tag k ≡ true → Ordinary tag
    is k o e = subst Ordinary (sym (eqb-true tag k e)) o

-- ---- a step

-- What an item does to the settings that are held: a change by its definition, or nothing.
abbrev pub Does : Bool → Settings → Settings → ℕ → List ℕ → Settings → Type 0
Does little base held tag v x =
    ((a : Attribute) × (c : Change) × (tagged tag ≡ Some a) × (defined a little base v ≡ Ok c) × (x ≡ applied c held))
    ⊎ ((tagged tag ≡ None) × (x ≡ held))

-- An item that belongs to a stretch.
pub record InStretch (little : Bool) (base held : Settings) (u : List ℕ) (x : Settings) : Type 0 where
  pub long : 2 + get_or u 1 0 ≤ length u
  pub short : get_or u 1 0 ≤ 127
  pub ordinary : Ordinary (get_or u 0 0)
  pub does : Does little base held (get_or u 0 0) (take (get_or u 1 0) (drop 2 u)) x

abbrev Leads : Bool → Settings → Settings → List ℕ → Step → Type 0
Leads little base held u (leaves x) = InStretch little base held u x
Leads little base held u ends = Unit {0}

module _ (little : Bool) (base held : Settings) (u : List ℕ) (l : 2 + get_or u 1 0 ≤ length u) (h : get_or u 1 0 ≤ 127) where
  abbrev tag : ℕ
  tag = get_or u 0 0

  abbrev value : List ℕ
  value = take (get_or u 1 0) (drop 2 u)

  leads-defined : (a : Attribute) → tagged tag ≡ Some a → (d : Result Change Fault) → defined a little base value ≡ d → Leads little base held u (leaves_by held d)
  unfolding leaves_by
  leads-defined a e (Ok c) f =
      record { long = l; short = h; ordinary = subst (OrdinaryBy tag) e (defined_ordinary tag); does = inl (a, c, e, f, refl) }
  leads-defined a e (Err fault) f = tt

  leads_other : tagged tag ≡ None → (t : Bool) → stepped_over tag ≡ t → Leads little base held u (pick t (leaves held) ends)
  leads_other e true f = record { long = l; short = h; ordinary = subst (OrdinaryIf tag) f (over_ordinary tag); does = inr (e, refl) }
  leads_other e false f = tt

  leads_by : (t : Option Attribute) → tagged tag ≡ t → Leads little base held u (step_by little base held tag value t)
  unfolding step_by
  leads_by (Some a) e = leads-defined a e (defined a little base value) refl
  leads_by None e = leads_other e (stepped_over tag) refl

step-leads : (little : Bool) (base held : Settings) (u : List ℕ) → Leads little base held u (step_of little base held u)
unfolding step_of
step-leads little base held u =
    pick_cases (Leads little base held u) (ltb (length u) 2) (λ _. tt)
    (λ a. pick_cases (Leads little base held u) (ltb 127 (get_or u 1 0)) (λ _. tt)
    (λ b. pick_cases (Leads little base held u) (ltb (length u - 2) (get_or u 1 0)) (λ _. tt)
    (λ c. let p = ltb-false (length u) 2 a in
    let q = ltb-false 127 (get_or u 1 0) b in
    let r = ltb-false (length u - 2) (get_or u 1 0) c in
    leads_by little base held u (omega arith) q (tagged (get_or u 0 0)) refl)))

pub step_led : (little : Bool) (base held : Settings) (u : List ℕ) {x : Settings} → step_of little base held u ≡ leaves x → InStretch little base held u x
step_led little base held u e = subst (Leads little base held u) e (step-leads little base held u)

-- ---- the item in the file

-- An item with a length of one octet, outside a group or inside.
abbrev pub item_in : Within → ℕ → ℕ → ℕ → Item
item_in Within.Root at tag n = Plain at tag (at + 2) n
item_in (Within.Definite channel end) at tag n = Member at channel tag (at + 2) n
item_in (Within.Open channel place) at tag n = Member at channel tag (at + 2) n

stays_in : (s : List ℕ) (at : ℕ) (w : Within) → 2 ≤ length (extent s at w) → stands_in at w ≡ w
stays_in s at Within.Root h = refl
stays_in s at (Within.Definite channel end) h =
    let e = length-take (end - at) (drop at s) in
    let l : at < end = omega arith in
    simp (lt-ltb at end l)
stays_in s at (Within.Open channel place) h = refl

next-head : (at : ℕ) (w : Within) (u : List ℕ) → 2 ≤ length u → next_in at w u ≡ item_of at w (head_of (is_inside w) u)
unfolding next_in
next-head at w [] h = let z : ⊥ = omega arith in absurd z
next-head at w (o ∷ u) h = refl

item-there : (at : ℕ) (w : Within) (tag n : ℕ) → eqb tag 0 ≡ false → item_of at w (Ok (ItemHead.Primitive tag 2 n)) ≡ Ok (Some ((item_in w at tag n), (cursor (at + 2 + n) w)))
unfolding item_of
item-there at Within.Root tag n z = refl
item-there at (Within.Definite channel end) tag n z = refl
item-there at (Within.Open channel place) tag n z = simp z

head_short : (inside : Bool) (u : List ℕ) → Ordinary (get_or u 0 0) → 2 + get_or u 1 0 ≤ length u → get_or u 1 0 ≤ 127 → head_of inside u ≡ Ok (ItemHead.Primitive (get_or u 0 0) 2 (get_or u 1 0))
unfolding primitive_form
head_short inside u o l h =
    let d = length-drop 1 u in
    let g = get_or-drop 1 u 0 0 in
    primitive_fits inside u 2 (get_or u 1 0) l (get_or u 0 0)
    (sym (form_primitive inside u (λ z. let x : ⊥ = omega arith in x) o.known (ap (both inside) o.anywhere ∙ both_false inside) (eqb-false (get_or u 0 0) 0x3F o.single))
    ∙ ap (primitive_form (get_or u 0 0)) (sym (length_short (drop 1 u) (λ z. let x : ⊥ = omega arith in x) (omega arith)) ∙ ap (λ (k : ℕ). Ok (Some (Length.Known k 1))) g))

-- The walk finds it, and goes on behind it where it was.
pub next_short : (s : List ℕ) (at : ℕ) (w : Within) → Ordinary (get_or (extent s at w) 0 0) → 2 + get_or (extent s at w) 1 0 ≤ length (extent s at w) → get_or (extent s at w) 1 0 ≤ 127
    → next_of s (cursor at w) ≡ Ok (Some ((item_in w at (get_or (extent s at w) 0 0) (get_or (extent s at w) 1 0)), (cursor (at + 2 + get_or (extent s at w) 1 0) w)))
unfolding next_of
next_short s at w o l h =
    ap (λ (v : Within). next_in at v (extent s at v)) (stays_in s at w (omega arith))
    ∙ next-head at w (extent s at w) (omega arith)
    ∙ ap (item_of at w) (head_short (is_inside w) (extent s at w) o l h)
    ∙ item-there at w (get_or (extent s at w) 0 0) (get_or (extent s at w) 1 0) o.nonzero

-- Its value.
pub value-ahead : (s : List ℕ) (at : ℕ) (w : Within) (n : ℕ) → 2 + n ≤ length (extent s at w) → take n (drop (at + 2) s) ≡ take n (drop 2 (extent s at w))
value-ahead s at Within.Root n h = ap (take n) (sym (drop-drop 2 at s))
value-ahead s at (Within.Definite channel end) n h =
    let e = length-take (end - at) (drop at s) in
    let l : n ≤ end - at - 2 = omega arith in
    sym (ap (take n) (drop-take 2 (end - at) (drop at s) ∙ ap (take (end - at - 2)) (drop-drop 2 at s)) ∙ take-take n (end - at - 2) (drop (at + 2) s) l)
value-ahead s at (Within.Open channel place) n h = ap (take n) (sym (drop-drop 2 at s))

-- What lies ahead, some octets later.
pub extent-later : (s : List ℕ) (at : ℕ) (w : Within) (k : ℕ) → drop k (extent s at w) ≡ extent s (at + k) w
extent-later s at Within.Root k = drop-drop k at s
extent-later s at (Within.Definite channel end) k =
    let e : end - at - k ≡ end - (at + k) = omega arith in
    drop-take k (end - at) (drop at s) ∙ (λ i. take (e i) (drop-drop k at s i))
extent-later s at (Within.Open channel place) k = drop-drop k at s
