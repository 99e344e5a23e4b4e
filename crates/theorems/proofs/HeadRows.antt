-- An item's head is refused by the first of its rows that holds, and else reads as the rows read it: each part of the head meets the tests of its
-- own rows, in their order.
--     length_by, length_first_lem    the length field, in a group's head or not
--     channel_by                 the channel number
--     head_reads                 the whole head
-- Assumes nothing.
use Rattle.std.specs.Prelude.{Result, Ok, Err, Option, Some, None}
use Rattle.heads.specs.declared.Fault.{Fault}
use Rattle.heads.specs.declared.Length.{Length}
use Rattle.heads.specs.declared.ItemHead.{ItemHead}
use Prim.Native.Nat.{ℕ, zero, suc, ◌+◌, ◌-◌, ◌*◌, ◌%◌, ◌≤◌, ◌<◌}
use mathlib.Core.Path.{◌≡◌, refl, ap}
use mathlib.Core.List.{List, [], ◌∷◌}
use mathlib.Core.Option.{Option as Maybe, none, some}
use mathlib.Core.Bool.{Bool, true, false, not}
use native.Mathlib.Decide.{dec_lt}
use native.Mathlib.Omega.{arith}
use borrow.Author.Tests.{lt-ltb, le-ltb, eq-eqb, ne_eqb, le-leb, lt-leb, ltb-true, ltb-false, eqb-true, eqb-false}
use lib.Dec.{ltb, eqb}
use lib.ListN.{length, take, drop, length-drop}
use Rattle.octets.specs.Pick.{pick, both, either}
use Rattle.octets.specs.Number.{big_from}
use Rattle.octets.proofs.Pick.{pick_cases}
use Rattle.heads.specs.declared.Refusal.{Refusal}
use Rattle.heads.specs.declared.Fault.TheVariants.{LengthOctet, PastEnd, LongChannel}
use Rattle.heads.specs.Head.{channel_of, length_of, unknown_context, root_only, primitive_form, group_length, group_form, form_of, head_by, head_of}
use Rattle.items.specs.Walk.{refusal}
use Rattle.verdict.specs.Verdict.{State}
use Rattle.theorems.specs.Rows.{Row, row, is_group, marked, seven_from, number_octets, channel_named, length_first, length_field, length_in, is_unknown, is_barred, long_number, number_past, no_length, value_past, item_rows}
use Rattle.theorems.proofs.Due.{first_due}

-- ---- the length field

-- What the octets of a length field tell, by what is read of them.
abbrev LengthBy : List ℕ → Result (Option Length) Fault → Type 0
LengthBy w (Ok (Some (Length.Known n octets))) =
    (octets ≡ length_field w) × (n ≡ length_in w) × (octets ≤ length w) × (length_first w < 0x85) × (length_first w ≡ 0x80 → ⊥)
LengthBy w (Ok (Some (Length.Open octets))) = (length_first w ≡ 0x80) × (0 < length w)
LengthBy w (Ok None) = (length w < length_field w) × (length_first w < 0x85) × (length_first w ≡ 0x80 → ⊥)
LengthBy w (Err fault) = (fault ≡ LengthOctet) × (0x85 ≤ length_first w)

length_by : (w : List ℕ) → LengthBy w (length_of w)
unfolding length_of
length_by [] = (omega arith, omega arith, λ e. omega arith)
length_by (b ∷ u) =
    let P : Result (Option Length) Fault → Type 0 = LengthBy (b ∷ u) in
    pick_cases P (ltb b 128)
    (λ t. let h = ltb-true b 128 t in (omega arith, rw t, omega arith, omega arith, λ e. omega arith))
    (λ t. let h = ltb-false b 128 t in pick_cases P (eqb (b - 128) 0)
    (λ z. let g = eqb-true (b - 128) 0 z in (omega arith, omega arith))
    (λ z. let g = eqb-false (b - 128) 0 z in
    let other : b ≡ 128 → ⊥ = λ e. g (let d : b - 128 ≡ 0 = omega arith in d) in
    pick_cases P (ltb 4 (b - 128))
    (λ f. let k = ltb-true 4 (b - 128) f in (refl, omega arith))
    (λ f. let k = ltb-false 4 (b - 128) f in pick_cases P (ltb (length u) (b - 128))
    (λ l. let m = ltb-true (length u) (b - 128) l in (omega arith, omega arith, other))
    (λ l. let m = ltb-false (length u) (b - 128) l in (omega arith, rw t, omega arith, omega arith, other)))))

-- The rows of a length field, in a group's head or not.
abbrev length_rows : ℕ → Bool → List ℕ → List Row
length_rows at group w = row LengthOctet at (no_length group w) ∷ row PastEnd at (value_past w) ∷ []

-- What a length field gives, where `rest` octets are left from its first on.
abbrev length_answer : ℕ → Bool → ℕ → Result (Option Length) Fault → Maybe Refusal
length_answer at group rest (Ok (Some (Length.Known n octets))) = pick (ltb (rest - octets) n) (some (refusal PastEnd at)) none
length_answer at group rest (Ok (Some (Length.Open octets))) = pick group none (some (refusal LengthOctet at))
length_answer at group rest (Ok None) = some (refusal PastEnd at)
length_answer at group rest (Err fault) = some (refusal fault at)

-- A value of n octets behind k runs past the end where all of them together do.
past_same : (m k n : ℕ) → k ≤ m → ltb m (k + n) ≡ ltb (m - k) n
past_same m k n h = by (dec_lt m (k + n))
  where
    by : Dec (m < k + n) → ltb m (k + n) ≡ ltb (m - k) n
    by (yes l) = let f : m - k < n = omega arith in rw (lt-ltb m (k + n) l, lt-ltb (m - k) n f)
    by (no l) = let e : k + n ≤ m = omega arith in let f : n ≤ m - k = omega arith in rw (le-ltb m (k + n) e, le-ltb (m - k) n f)

open_none : (w : List ℕ) → length_first w ≡ 0x80 → length_in w ≡ 0
unfolding big_from
open_none w e = rw e

length_first_lem : (at : ℕ) (group : Bool) (w : List ℕ) (l : Result (Option Length) Fault) → LengthBy w l → first_due (length_rows at group w) ≡ length_answer at group (length w) l
length_first_lem at group w (Ok (Some (Length.Known n octets))) p =
    simp (lt-leb 0x85 (length_first w) p.3, ne_eqb (length_first w) 0x80 p.4, past_same (length w) (length_field w) (length_in w) (omega arith), p.0, p.1)
length_first_lem at group w (Ok (Some (Length.Open octets))) p =
    let none_said = open_none w p.0 in
    let fits : ltb (length w) (length_field w + length_in w) ≡ false = le-ltb (length w) (length_field w + length_in w) (omega arith) in
    simp (lt-leb 0x85 (length_first w) (omega arith), eq-eqb (length_first w) 0x80 p.0, fits) (by group)
  where
    by : (g : Bool) → pick (not g) (some (refusal LengthOctet at)) none ≡ pick g none (some (refusal LengthOctet at))
    by true = refl
    by false = refl
length_first_lem at group w (Ok None) p =
    simp (lt-leb 0x85 (length_first w) p.1, ne_eqb (length_first w) 0x80 p.2, lt-ltb (length w) (length_field w + length_in w) (omega arith))
length_first_lem at group w (Err fault) p = simp (le-leb 0x85 (length_first w) p.1, p.0)

-- ---- the channel number

-- What the octets of a channel number tell, by what is read of them, where k octets may still come and p are behind.
abbrev ChannelBy : ℕ → ℕ → ℕ → List ℕ → Result (Option (ℕ × ℕ)) Fault → Type 0
ChannelBy k p acc u (Ok (Some (n, octets))) =
    (marked k u < k) × (marked k u < length u) × (octets ≡ p + suc (marked k u)) × (n ≡ seven_from acc (take (suc (marked k u)) u))
ChannelBy k p acc u (Ok None) = (marked k u < k) × (marked k u ≡ length u)
ChannelBy k p acc u (Err fault) = (fault ≡ LongChannel) × (marked k u ≡ k)

channel_by_later : (k p acc b : ℕ) (u : List ℕ) → ltb b 128 ≡ false → (c : Result (Option (ℕ × ℕ)) Fault) → ChannelBy k (p + 1) (acc * 128 + b % 128) u c → ChannelBy (suc k) p acc (b ∷ u) c
unfolding marked seven_from
channel_by_later k p acc b u e (Ok (Some (n, octets))) c = simp e (omega arith, omega arith, omega arith, c.3)
channel_by_later k p acc b u e (Ok None) c = simp e (omega arith)
channel_by_later k p acc b u e (Err fault) c = (c.0, simp e (ap suc c.1))

channel_by : (k p acc : ℕ) (u : List ℕ) → ChannelBy k p acc u (channel_of k p acc u)
unfolding channel_of marked seven_from
channel_by zero p acc u = (refl, refl)
channel_by (suc k) p acc [] = (omega arith, refl)
channel_by (suc k) p acc (b ∷ u) =
    pick_cases (ChannelBy (suc k) p acc (b ∷ u)) (ltb b 128)
    (λ e. simp e (omega arith, omega arith, omega arith, refl))
    (λ e. channel_by_later k p acc b u e (channel_of k (p + 1) (acc * 128 + b % 128) u) (channel_by k (p + 1) (acc * 128 + b % 128) u))

-- ---- the head

-- A head that is read where its rows give `found`: none of them holds, and its parts are those of the octets u behind the tag.
pub record ReadPrimitive (found : Maybe Refusal) (inside : Bool) (tag : ℕ) (u : List ℕ) (t start len : ℕ) : Type 0 where
  pub free : found ≡ none
  pub allowed : both inside (root_only tag) ≡ false
  pub primitive : is_group tag ≡ false
  pub same_tag : t ≡ tag
  pub same_start : start ≡ suc (length_field u)
  pub same_length : len ≡ length_in u
  pub fits : start + len ≤ suc (length u)

pub record ReadGroup (found : Maybe Refusal) (tag : ℕ) (u : List ℕ) (channel : ℕ) : Type 0 where
  pub free : found ≡ none
  pub group : is_group tag ≡ true
  pub same-channel : channel ≡ channel_named u

-- The same, or refused with what the rows give.
abbrev pub HeadRead : Maybe Refusal → ℕ → Bool → ℕ → List ℕ → Result ItemHead Fault → Type 0
HeadRead found at inside tag u (Ok (ItemHead.Primitive t start len)) = ReadPrimitive found inside tag u t start len
HeadRead found at inside tag u (Ok (ItemHead.Definite channel start len)) = ReadGroup found tag u channel
HeadRead found at inside tag u (Ok (ItemHead.Open channel start)) = ReadGroup found tag u channel
HeadRead found at inside tag u (Err n) = found ≡ some (refusal n at)

-- The same of a form, whose value may not run past the end.
abbrev FormRead : Maybe Refusal → ℕ → Bool → ℕ → List ℕ → Result (Option ItemHead) Fault → Type 0
FormRead found at inside tag u f = HeadRead found at inside tag u (head_by (suc (length u)) f)

module _ (at : ℕ) (inside : Bool) (tag : ℕ) (u : List ℕ) where
  primitive_reads : both inside (root_only tag) ≡ false → is_group tag ≡ false → (l : Result (Option Length) Fault) → LengthBy u l → FormRead (length_answer at false (length u) l) at inside tag u (primitive_form tag l)
  unfolding primitive_form head_by
  primitive_reads b g (Ok (Some (Length.Known n octets))) p =
      let left : suc (length u) - (octets + 1) ≡ length u - octets = omega arith in
      rw left
      (pick_cases (HeadRead (length_answer at false (length u) (Ok (Some (Length.Known n octets)))) at inside tag u) (ltb (length u - octets) n) (λ t. rw t)
      (λ t. let f = ltb-false (length u - octets) n t in
      record { free = rw t; allowed = b; primitive = g; same_tag = refl; same_start = omega arith; same_length = p.1; fits = omega arith }))
  primitive_reads b g (Ok (Some (Length.Open octets))) p = refl
  primitive_reads b g (Ok None) p = refl
  primitive_reads b g (Err fault) p = refl

  group_length_reads : is_group tag ≡ true → (channel k rest : ℕ) → channel ≡ channel_named u → k + rest ≡ length u → (l : Result (Option Length) Fault) → FormRead (length_answer at true rest l) at inside tag u (group_length channel k l)
  unfolding group_length head_by
  group_length_reads g channel k rest e r (Ok (Some (Length.Known n octets))) =
      let left : suc (length u) - (k + octets + 1) ≡ rest - octets = omega arith in
      rw left
      (pick_cases (HeadRead (length_answer at true rest (Ok (Some (Length.Known n octets)))) at inside tag u) (ltb (rest - octets) n) (λ t. rw t)
      (λ t. record { free = rw t; group = g; same-channel = e }))
  group_length_reads g channel k rest e r (Ok (Some (Length.Open octets))) = record { free = refl; group = g; same-channel = e }
  group_length_reads g channel k rest e r (Ok None) = refl
  group_length_reads g channel k rest e r (Err fault) = refl

  group_reads : is_group tag ≡ true → (c : Result (Option (ℕ × ℕ)) Fault) → ChannelBy 4 0 0 u c → FormRead (first_due (row LongChannel at (long_number u) ∷ row PastEnd at (number_past u) ∷ length_rows at true (drop (number_octets u) u))) at inside tag u (group_form u c)
  unfolding group_form head_by
  group_reads g (Ok (Some (channel, k))) c =
      let w = drop (number_octets u) u in
      let e : k ≡ number_octets u = omega arith in
      let r : number_octets u + length w ≡ length u = omega (arith, length-drop (number_octets u) u) in
      simp (ne_eqb (marked 4 u) 4 (λ q. omega arith), ne_eqb (marked 4 u) (length u) (λ q. omega arith), length_first_lem at true w (length_of w) (length_by w), e)
      (group_length_reads g channel (number_octets u) (length w) c.3 r (length_of w))
  group_reads g (Ok None) c = simp (ne_eqb (marked 4 u) 4 (λ q. omega arith), eq-eqb (marked 4 u) (length u) c.1)
  group_reads g (Err fault) c = simp (eq-eqb (marked 4 u) 4 c.1, c.0)

pub either_false : (t : Bool) → either t false ≡ t
either_false true = refl
either_false false = refl

-- The tags that may not stand inside a group.
barred_same : (tag : ℕ) → is_barred tag ≡ root_only tag
unfolding is_barred root_only
barred_same tag = rw (either_false (is_group tag))

-- The rows of a head are the first six of an item's.
abbrev pub head_rows : State → ℕ → Bool → ℕ → List ℕ → List Row
head_rows x at inside tag u = take 6 (item_rows x at inside tag u)

pub head_reads : (x : State) (at : ℕ) (inside : Bool) (tag : ℕ) (u : List ℕ) → HeadRead (first_due (head_rows x at inside tag u)) at inside tag u (head_of inside (tag ∷ u))
unfolding head_of form_of head_by item_rows unknown_context is_unknown
head_reads x at inside tag u =
    let P : Result (Option ItemHead) Fault → Type 0 = FormRead (first_due (head_rows x at inside tag u)) at inside tag u in
    pick_cases P (unknown_context tag) (λ e. rw e)
    (λ e. pick_cases P (both inside (root_only tag)) (λ b. rw (e, barred_same tag, b))
    (λ b. pick_cases P (is_group tag)
    (λ g. rw (e, barred_same tag, b, g) (group_reads at inside tag u g (channel_of 4 0 0 u) (channel_by 4 0 0 u)))
    (λ g. rw (e, barred_same tag, b, g, length_first_lem at false u (length_of u) (length_by u))
    (primitive_reads at inside tag u b g (length_of u) (length_by u)))))
