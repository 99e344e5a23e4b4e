-- Laws of the walk.
--     next-none, next-head    what stands at a cursor, by the octets that are left there
--     extent_found            those octets lie in the file
--     next_found              an item that is found lies in the file: its place, its value and the cursor behind it
--     next-later              the cursor behind an item lies behind the item's tag, which is in the file
--     next-refused            a fault of form has one of the numbers up to 10; 3 is at the cursor
--     walk_turns              more turns than there are octets change nothing
--     items_found, items_end, items_refused    the items from a cursor on, by what stands there
--     found_as                an item found, however the cursor behind it is kept
-- Assumes nothing.
use Rattle.heads.specs.declared.Fault.{Fault}
use Rattle.heads.specs.declared.ItemHead.{ItemHead}
use Rattle.std.specs.Prelude.{Result, Ok, Err, Option, Some, None}
use Prim.Native.Nat.{ℕ, zero, suc, ◌+◌, ◌-◌, ◌≤◌, ◌<◌}
use mathlib.Core.Path.{◌≡◌, refl, sym, ◌∙◌, ap, subst}
use mathlib.Core.List.{List, [], ◌∷◌}
use mathlib.Core.Bool.{Bool}
use native.Mathlib.Omega.{arith}
use lib.ListN.{length, take, drop, length-take, length-drop}
use Rattle.octets.proofs.Pick.{pick_cases}
use Rattle.items.specs.declared.Within.{Within}
use Rattle.items.specs.declared.Cursor.{Cursor}
use Rattle.items.specs.declared.Item.{Item}
use Rattle.heads.specs.declared.Refusal.{Refusal}
use Rattle.heads.specs.declared.Fault.TheVariants.{PastEnd, UnendedGroup}
use Rattle.heads.specs.Head.{head_of}
use Rattle.items.specs.Walk.{item, finished, fault, stands_in, is_inside, extent, ended, ends_open, item_of, next_in, next_of, follow, walk, items_from}
use Rattle.heads.specs.Faults.{number_of}
use Rattle.heads.proofs.Heads.{other_fault, HeadWithin, head-within}

-- ---- what stands at a cursor

in_none : (at : ℕ) (w : Within) (u : List ℕ) → length u ≡ 0 → ended w ≡ next_in at w u
unfolding next_in
in_none at w [] e = refl
in_none at w (b ∷ u) e = let z : ⊥ = omega arith in absurd z

in_some : (at : ℕ) (w : Within) (u : List ℕ) → (length u ≡ 0 → ⊥) → item_of at w (head_of (is_inside w) u) ≡ next_in at w u
unfolding next_in
in_some at w [] n = absurd (n refl)
in_some at w (b ∷ u) n = refl

module _ (s : List ℕ) (c : Cursor) (w : Within) (u : List ℕ) (ew : w ≡ stands_in c.at c.within) (eu : u ≡ extent s c.at w) where
  next_by : next_in c.at w u ≡ next_of s c
  unfolding next_of
  next_by = ap (next_in c.at w) eu ∙ ap (λ (x : Within). next_in c.at x (extent s c.at x)) ew

  pub next-none : length u ≡ 0 → ended w ≡ next_of s c
  next-none e = in_none c.at w u e ∙ next_by

  pub next-head : (length u ≡ 0 → ⊥) → (b : Bool) (r h : Result ItemHead Fault) → b ≡ is_inside w → r ≡ head_of b u → r ≡ h → item_of c.at w h ≡ next_of s c
  next-head n b r h eb er e = ap (item_of c.at w) (sym e ∙ er ∙ ap (λ (x : Bool). head_of x u) eb) ∙ in_some c.at w u n ∙ next_by

dropped_fits : (s : List ℕ) (at : ℕ) → (length (drop at s) ≡ 0 → ⊥) → at + length (drop at s) ≤ length s
dropped_fits s at n =
    let e = length-drop at s in
    let m : length s - at ≡ 0 → ⊥ = λ z. n (e ∙ z) in
    omega arith

extent-fits : (s : List ℕ) (at : ℕ) (w : Within) → (length (extent s at w) ≡ 0 → ⊥) → at + length (extent s at w) ≤ length s
extent-fits s at Within.Root n = dropped_fits s at n
extent-fits s at (Within.Definite channel end) n =
    let e = length-take (end - at) (drop at s) in
    let d = length-drop at s in
    let m : length (take (end - at) (drop at s)) ≡ 0 → ⊥ = n in
    omega arith
extent-fits s at (Within.Open channel place) n = dropped_fits s at n

-- The octets that are left at a place lie in the file.
pub extent_found : (s : List ℕ) (at : ℕ) (w : Within) (u : List ℕ) → u ≡ extent s at w → (length u ≡ 0 → ⊥) → at + length u ≤ length s
extent_found s at w u e n = rw e (extent-fits s at w (λ z. n (ap length e ∙ z)))

-- ---- one item further

-- An item at a place that ends before another: its own place, and where its value lies if it has one.
abbrev pub ItemLies : ℕ → ℕ → Item → Type 0
ItemLies at end (Item.Plain place tag start len) = (place ≡ at) × (at < start) × (start + len ≡ end)
ItemLies at end (Item.Group place channel) = place ≡ at
ItemLies at end (Item.Member place channel tag start len) = (place ≡ at) × (at < start) × (start + len ≡ end)
ItemLies at end (Item.Mark place) = place ≡ at

-- An item found at a place of a file of `long` octets, and the cursor behind it.
pub record FoundAt (long at : ℕ) (i : Item) (d : Cursor) : Type 0 where
  pub later : at < d.at
  pub inside : d.at ≤ long
  pub lies : ItemLies at d.at i

abbrev Inner : ℕ → ℕ → Result (Option (Item × Cursor)) Refusal → Type 0
Inner long at (Ok (Some (i, d))) = FoundAt long at i d
Inner long at (Ok None) = Unit {0}
Inner long at (Err r) = (number_of r.fault ≤ number_of UnendedGroup) × (r.fault ≡ PastEnd → r.place ≡ at)

inner_item : (long at left : ℕ) (w : Within) (h : Result ItemHead Fault) → at + left ≤ long → HeadWithin left h → Inner long at (item_of at w h)
unfolding item_of
inner_item long at left Within.Root (Ok (ItemHead.Primitive tag start len)) f p = omega arith
inner_item long at left (Within.Definite channel stop) (Ok (ItemHead.Primitive tag start len)) f p = omega arith
inner_item long at left (Within.Open channel place) (Ok (ItemHead.Primitive tag start len)) f p =
    pick_cases (Inner long at) (ends_open tag len) (λ _. omega arith) (λ _. omega arith)
inner_item long at left w (Ok (ItemHead.Definite channel start len)) f p = omega arith
inner_item long at left w (Ok (ItemHead.Open channel start)) f p = omega arith
inner_item long at left w (Err why) f p = (omega arith, λ e. refl)

inner_ended : (long at : ℕ) (w : Within) → Inner long at (ended w)
inner_ended long at Within.Root = tt
inner_ended long at (Within.Definite channel stop) = tt
inner_ended long at (Within.Open channel place) = (omega arith, λ e. absurd (other_fault UnendedGroup PastEnd (λ k. omega arith) e))

inner_in : (s : List ℕ) (at : ℕ) (w : Within) (u : List ℕ) → u ≡ extent s at w → Inner (length s) at (next_in at w u)
unfolding next_in
inner_in s at w [] e = inner_ended (length s) at w
inner_in s at w (b ∷ u) e =
    let f = extent_found s at w (b ∷ u) e (λ z. let x : ⊥ = omega arith in x) in
    inner_item (length s) at (suc (length u)) w (head_of (is_inside w) (b ∷ u)) f (head-within (is_inside w) (b ∷ u))

inner_next : (s : List ℕ) (c : Cursor) → Inner (length s) c.at (next_of s c)
unfolding next_of
inner_next s c = inner_in s c.at (stands_in c.at c.within) (extent s c.at (stands_in c.at c.within)) refl

-- What is found stands in the file, its value behind its tag.
pub next_found : (s : List ℕ) (c : Cursor) {n : Result (Option (Item × Cursor)) Refusal} {i : Item} {d : Cursor} → n ≡ next_of s c → n ≡ Ok (Some (i, d)) → FoundAt (length s) c.at i d
next_found s c e f = subst (Inner (length s) c.at) (sym e ∙ f) (inner_next s c)

pub next-later : (s : List ℕ) (c : Cursor) {n : Result (Option (Item × Cursor)) Refusal} {i : Item} {d : Cursor} → n ≡ next_of s c → n ≡ Ok (Some (i, d)) → (c.at < length s) × (c.at < d.at)
next-later s c e f = let p = next_found s c e f in omega arith

-- A fault of form has one of the numbers up to 10; 3 is at the cursor.
pub next-refused : (s : List ℕ) (c : Cursor) {n : Result (Option (Item × Cursor)) Refusal} {r : Refusal} → n ≡ next_of s c → n ≡ Err r → (number_of r.fault ≤ number_of UnendedGroup) × (r.fault ≡ PastEnd → r.place ≡ c.at)
next-refused s c e f = subst (Inner (length s) c.at) (sym e ∙ f) (inner_next s c)

-- ---- all items

-- More turns than there are octets left change nothing.
pub walk_turns : (j k : ℕ) (s : List ℕ) (c : Cursor) → length s - c.at < j → length s - c.at < k → walk j s c ≡ walk k s c
unfolding walk follow
walk_turns zero k s c h l = let z : ⊥ = omega arith in absurd z
walk_turns (suc j) zero s c h l = let z : ⊥ = omega arith in absurd z
walk_turns (suc j) (suc k) s c h l = by (next_of s c) (inner_next s c) (λ d p q. walk_turns j k s d p q)
  where
    by : (n : Result (Option (Item × Cursor)) Refusal) → Inner (length s) c.at n → ((d : Cursor) → length s - d.at < j → length s - d.at < k → walk j s d ≡ walk k s d) → follow (walk j s) n ≡ follow (walk k s) n
    by (Ok (Some (i, d))) p ih = ap (item i) (ih d (omega arith) (omega arith))
    by (Ok None) p ih = refl
    by (Err r) p ih = refl

module _ (s : List ℕ) (c : Cursor) where
  pub items_found : (i : Item) (d : Cursor) → next_of s c ≡ Ok (Some (i, d)) → items_from s c ≡ item i (items_from s d)
  unfolding items_from walk follow
  items_found i d e =
      let p = next-later s c refl e in
      ap (follow (walk (length s - c.at) s)) e
      ∙ ap (item i) (walk_turns (length s - c.at) (suc (length s - d.at)) s d (omega arith) (omega arith))

  pub items_end : next_of s c ≡ (Ok None) → items_from s c ≡ finished
  unfolding items_from walk follow
  items_end e = ap (follow (walk (length s - c.at) s)) e

  pub items_refused : (r : Refusal) → next_of s c ≡ Err r → items_from s c ≡ fault r
  unfolding items_from walk follow
  items_refused r e = ap (follow (walk (length s - c.at) s)) e

-- An item is found with the cursor behind it, however that is kept.
pub found_as : {n : Result (Option (Item × Cursor)) Refusal} {i : Item} {d d' : Cursor} → n ≡ Ok (Some (i, d)) → d' ≡ d → n ≡ Ok (Some (i, d'))
found_as {i = i} e f = e ∙ ap (λ (w : Cursor). Ok (Some (i, w))) (sym f)
