-- Laws of one item's parts, as the code's tests meet them, and how far each part reaches.
--     channel-none, -past, -last, -more    one octet of a channel number
--     room, room_fits                      its value fits
--     length_none, -short, -open, -bad, -past, -long    the ways of a length field
--     length-within, channel-within, form_within, head-within    no part reaches past the end, and how many octets it takes at most
--     length_found, channel_found, head_found           the same of what a call answers
--     form_none, -context, -barred, -group, -primitive  the head alone, by its first octet
--     primitive_fits, definite_fits                     the head with a value that fits
-- Assumes nothing.
use Rattle.std.specs.Prelude.{Result, Ok, Err, Option, Some, None}
use Rattle.heads.specs.declared.Fault.{Fault}
use Rattle.heads.specs.declared.Length.{Length}
use Rattle.heads.specs.declared.ItemHead.{ItemHead}
use Prim.Native.Nat.{ℕ, zero, suc, ◌+◌, ◌-◌, ◌*◌, ◌%◌, ◌^◌, ◌≤◌, ◌<◌, zero-le}
use mathlib.Core.Path.{◌≡◌, refl, sym, ap, ◌∙◌, subst}
use mathlib.Core.List.{List, [], ◌∷◌}
use mathlib.Core.Bool.{Bool, true, false}
use native.Mathlib.Nat.{mul_assoc, add-mul, one-mul, mul-le-mul_right, pow-succ', pow-zero, le-mul_of_pos_right, pow-le-pow_right}
use native.Mathlib.Numerals.{sub-one}
use native.Mathlib.Omega.{arith}
use borrow.Author.Tests.{lt-ltb, le-ltb, eq-eqb, ne_eqb, ltb-true, ltb-false}
use lib.Dec.{ltb, eqb}
use lib.ListN.{length, get_or, take, drop, length-drop}
use lib.Seq.{take_all}
use Rattle.octets.specs.Pick.{both}
use Rattle.octets.specs.Number.{big_from}
use Rattle.octets.proofs.Pick.{pick_cases}
use Rattle.heads.specs.declared.Fault.TheVariants.{ContextTag, LengthOctet, PastEnd, LongChannel, BarredTag}
use Rattle.heads.specs.Faults.{number_of}
use Rattle.heads.specs.Head.{channel_of, length_of, unknown_context, root_only, primitive_form, group_length, group_form, form_of, head_by, head_of}

abbrev first : List ℕ → ℕ
first u = get_or u 0 0

-- ---- the channel number, by its first octet

module _ (passed value : ℕ) where
  pub channel-none : (k : ℕ) (u : List ℕ) → k ≡ 0 → (Err LongChannel) ≡ channel_of k passed value u
  unfolding channel_of
  channel-none k u e = rw e

  pub channel-past : (k : ℕ) (u : List ℕ) → (k ≡ 0 → ⊥) → length u ≡ 0 → (Ok None) ≡ channel_of k passed value u
  unfolding channel_of
  channel-past zero u n e = absurd (n refl)
  channel-past (suc k) [] n e = refl
  channel-past (suc k) (b ∷ u) n e = let z : ⊥ = omega arith in absurd z

  pub channel_last : (k : ℕ) (u : List ℕ) → (k ≡ 0 → ⊥) → (length u ≡ 0 → ⊥) → first u < 128 → Ok (Some ((value * 128 + first u % 128), (passed + 1))) ≡ channel_of k passed value u
  unfolding channel_of
  channel_last zero u n e l = absurd (n refl)
  channel_last (suc k) [] n e l = absurd (e refl)
  channel_last (suc k) (b ∷ u) n e l = simp lt-ltb

  pub channel-more : (k : ℕ) (u : List ℕ) → (k ≡ 0 → ⊥) → (length u ≡ 0 → ⊥) → 128 ≤ first u → channel_of (k - 1) (passed + 1) (value * 128 + first u % 128) (drop 1 u) ≡ channel_of k passed value u
  unfolding channel_of
  channel-more zero u n e l = absurd (n refl)
  channel-more (suc k) [] n e l = absurd (e refl)
  channel-more (suc k) (b ∷ u) n e l = simp (sub-one, le-ltb)

-- Digits to the base B, highest first: a value that leaves room for k digits below L leaves room for k - 1 with one of them taken in.
module _ (B L : ℕ) where
  pub room : (k v d : ℕ) → (k ≡ 0 → ⊥) → d < B → (v + 1) * B ^ k ≤ L → (v * B + d + 1) * B ^ (k - 1) ≤ L
  room zero v d n h r = absurd (n refl)
  room (suc k) v d n h r =
      let e : (v + 1) * B ^ suc k ≡ (v * B + B) * B ^ k = rw (pow-succ' B k, ← mul_assoc (v + 1) B (B ^ k), add-mul v 1 B, one-mul B) in
      let m : (v * B + d + 1) * B ^ k ≤ (v * B + B) * B ^ k = mul-le-mul_right (B ^ k) (omega arith) in
      rw sub-one (omega arith)

  pub room_fits : (k v d : ℕ) → (k ≡ 0 → ⊥) → d < B → (v + 1) * B ^ k ≤ L → v * B + d < L
  room_fits k v d n h r =
      omega
      (arith, room k v d n h r, le-mul_of_pos_right {m = B ^ (k - 1)} (v * B + d + 1) (rw pow-zero at (pow-le-pow_right {n = B} (omega arith) {i = 0} {j = k - 1} zero-le)))

-- ---- the length field, by its first octet

pub length_none : (u : List ℕ) → length u ≡ 0 → (Ok None) ≡ length_of u
unfolding length_of
length_none [] e = refl
length_none (b ∷ u) e = let z : ⊥ = omega arith in absurd z

pub length_short : (u : List ℕ) → (length u ≡ 0 → ⊥) → first u < 128 → Ok (Some (Length.Known (first u) 1)) ≡ length_of u
unfolding length_of
length_short [] e h = absurd (e refl)
length_short (b ∷ u) e h = simp lt-ltb

pub length_open : (u : List ℕ) → (length u ≡ 0 → ⊥) → 128 ≤ first u → first u - 128 ≡ 0 → Ok (Some (Length.Open 1)) ≡ length_of u
unfolding length_of
length_open [] e h z = absurd (e refl)
length_open (b ∷ u) e h z = simp (le-ltb, eq-eqb)

pub length_bad : (u : List ℕ) → (length u ≡ 0 → ⊥) → 128 ≤ first u → (first u - 128 ≡ 0 → ⊥) → 4 < first u - 128 → (Err LengthOctet) ≡ length_of u
unfolding length_of
length_bad [] e h z l = absurd (e refl)
length_bad (b ∷ u) e h z l = simp (le-ltb, ne_eqb, lt-ltb)

pub length-past : (u : List ℕ) → (length u ≡ 0 → ⊥) → 128 ≤ first u → (first u - 128 ≡ 0 → ⊥) → first u - 128 ≤ 4 → length u - 1 < first u - 128 → (Ok None) ≡ length_of u
unfolding length_of
length-past [] e h z l p = absurd (e refl)
length-past (b ∷ u) e h z l p =
    let q : length u < b - 128 = omega arith in
    simp (le-ltb b 128 h, ne_eqb (b - 128) 0 z, le-ltb 4 (b - 128) l, lt-ltb (length u) (b - 128) q)

pub length-long : (u : List ℕ) → (length u ≡ 0 → ⊥) → 128 ≤ first u → (first u - 128 ≡ 0 → ⊥) → first u - 128 ≤ 4 → first u - 128 ≤ length u - 1 → Ok (Some (Length.Known (big_from 0 (take (first u - 128) (drop 1 u))) (first u - 128 + 1))) ≡ length_of u
unfolding length_of
length-long [] e h z l p = absurd (e refl)
length-long (b ∷ u) e h z l p =
    let q : b - 128 ≤ length u = omega arith in
    simp (le-ltb b 128 h, ne_eqb (b - 128) 0 z, le-ltb 4 (b - 128) l, le-ltb (length u) (b - 128) q)

-- ---- how far each part reaches

-- The fault of a head has one of the numbers up to 5, and is not 3.
abbrev pub FormFault : Fault → Type 0
FormFault k = (number_of k ≤ number_of BarredTag) × (k ≡ PastEnd → ⊥)

-- Faults with two numbers are two.
pub other_fault : (a b : Fault) → (number_of a ≡ number_of b → ⊥) → a ≡ b → ⊥
other_fault a b h e = h (ap number_of e)

fault_context : FormFault ContextTag
fault_context = (omega arith, other_fault ContextTag PastEnd (λ e. omega arith))

fault_length : FormFault LengthOctet
fault_length = (omega arith, other_fault LengthOctet PastEnd (λ e. omega arith))

fault_channel : FormFault LongChannel
fault_channel = (omega arith, other_fault LongChannel PastEnd (λ e. omega arith))

fault_barred : FormFault BarredTag
fault_barred = (omega arith, other_fault BarredTag PastEnd (λ e. omega arith))

-- A length field takes at least one octet, none past the end, and five at most; where more are wanted there are fewer.
abbrev pub LengthWithin : ℕ → Result (Option Length) Fault → Type 0
LengthWithin end (Ok (Some (Length.Known n octets))) = (0 < octets) × (octets ≤ end) × (octets ≤ 5)
LengthWithin end (Ok (Some (Length.Open octets))) = (0 < octets) × (octets ≤ end) × (octets ≤ 5)
LengthWithin end (Ok None) = end < 5
LengthWithin end (Err fault) = FormFault fault

pub length-within : (u : List ℕ) → LengthWithin (length u) (length_of u)
unfolding length_of
length-within [] = omega arith
length-within (b ∷ u) =
    pick_cases (LengthWithin (suc (length u))) (ltb b 128) (λ _. omega arith)
    (λ _. pick_cases (LengthWithin (suc (length u))) (eqb (b - 128) 0) (λ _. omega arith)
    (λ _. pick_cases (LengthWithin (suc (length u))) (ltb 4 (b - 128)) (λ _. fault_length)
    (λ f. let most = ltb-false 4 (b - 128) f in
    pick_cases (LengthWithin (suc (length u))) (ltb (length u) (b - 128)) (λ g. omega (arith, ltb-true (length u) (b - 128) g))
    (λ g. omega (arith, ltb-false (length u) (b - 128) g)))))

-- A channel number takes at least one octet, none past the end, and no more than are allowed; where more are wanted there are fewer.
abbrev pub ChannelWithin : ℕ → ℕ → ℕ → Result (Option (ℕ × ℕ)) Fault → Type 0
ChannelWithin passed allowed end (Ok (Some (v, octets))) = (passed < octets) × (octets ≤ passed + end) × (octets ≤ passed + allowed)
ChannelWithin passed allowed end (Ok None) = end < allowed
ChannelWithin passed allowed end (Err fault) = FormFault fault

channel-later : (passed allowed end : ℕ) (c : Result (Option (ℕ × ℕ)) Fault) → ChannelWithin (passed + 1) allowed end c → ChannelWithin passed (suc allowed) (suc end) c
channel-later passed allowed end (Ok (Some (v, octets))) w = omega arith
channel-later passed allowed end (Ok None) w = omega arith
channel-later passed allowed end (Err fault) w = w

pub channel-within : (allowed passed value : ℕ) (u : List ℕ) → ChannelWithin passed allowed (length u) (channel_of allowed passed value u)
unfolding channel_of
channel-within zero passed value u = fault_channel
channel-within (suc allowed) passed value [] = omega arith
channel-within (suc allowed) passed value (b ∷ u) =
    let v = value * 128 + b % 128 in
    pick_cases (ChannelWithin passed (suc allowed) (suc (length u))) (ltb b 128) (λ _. omega arith)
    (λ _. channel-later passed allowed (length u) (channel_of allowed (passed + 1) v u) (channel-within allowed (passed + 1) v u))

-- A head takes at least one octet, none past the end, and ten at most; where more are wanted there are fewer. A fault has one of the numbers up to 5, and not 3.
abbrev pub FormWithin : ℕ → Result (Option ItemHead) Fault → Type 0
FormWithin end (Ok None) = end < 10
FormWithin end (Err k) = FormFault k
FormWithin end (Ok (Some (ItemHead.Primitive tag start n))) = (0 < start) × (start ≤ end) × (start ≤ 10)
FormWithin end (Ok (Some (ItemHead.Definite c start n))) = (0 < start) × (start ≤ end) × (start ≤ 10)
FormWithin end (Ok (Some (ItemHead.Open c start))) = (0 < start) × (start ≤ end) × (start ≤ 10)

primitive_within : (tag end : ℕ) (l : Result (Option Length) Fault) → LengthWithin end l → FormWithin (suc end) (primitive_form tag l)
unfolding primitive_form
primitive_within tag end (Ok (Some (Length.Known n octets))) w = omega arith
primitive_within tag end (Ok (Some (Length.Open octets))) w = fault_length
primitive_within tag end (Ok None) w = omega arith
primitive_within tag end (Err fault) w = w

group_length_within : (channel k end : ℕ) (l : Result (Option Length) Fault) → k ≤ 4 → LengthWithin end l → FormWithin (suc (k + end)) (group_length channel k l)
unfolding group_length
group_length_within channel k end (Ok (Some (Length.Known n octets))) h w = omega arith
group_length_within channel k end (Ok (Some (Length.Open octets))) h w = omega arith
group_length_within channel k end (Ok None) h w = omega arith
group_length_within channel k end (Err fault) h w = w

group_within : (u : List ℕ) (c : Result (Option (ℕ × ℕ)) Fault) → ChannelWithin 0 4 (length u) c → FormWithin (suc (length u)) (group_form u c)
unfolding group_form
group_within u (Ok (Some (v, k))) w =
    let e : suc (k + length (drop k u)) ≡ suc (length u) = rw length-drop (omega arith) in
    rw e at (group_length_within v k (length (drop k u)) (length_of (drop k u)) (omega arith) (length-within (drop k u)))
group_within u (Ok None) w = omega arith
group_within u (Err fault) w = w

pub form_within : (inside : Bool) (u : List ℕ) → FormWithin (length u) (form_of inside u)
unfolding form_of
form_within inside [] = omega arith
form_within inside (tag ∷ u) =
    pick_cases (FormWithin (suc (length u))) (unknown_context tag) (λ _. fault_context)
    (λ _. pick_cases (FormWithin (suc (length u))) (both inside (root_only tag)) (λ _. fault_barred)
    (λ _. pick_cases (FormWithin (suc (length u))) (eqb tag 63)
    (λ _. group_within u (channel_of 4 0 0 u) (channel-within 4 0 0 u))
    (λ _. primitive_within tag (length u) (length_of u) (length-within u))))

-- A value starts behind its tag and ends by the end; a fault has one of the numbers up to 5.
abbrev pub HeadWithin : ℕ → Result ItemHead Fault → Type 0
HeadWithin end (Ok (ItemHead.Primitive tag start n)) = (0 < start) × (start + n ≤ end)
HeadWithin end (Ok (ItemHead.Definite c start n)) = (0 < start) × (start + n ≤ end)
HeadWithin end (Ok (ItemHead.Open c start)) = (0 < start) × (start ≤ end)
HeadWithin end (Err k) = number_of k ≤ number_of BarredTag

by_within : (end : ℕ) (f : Result (Option ItemHead) Fault) → FormWithin end f → HeadWithin end (head_by end f)
unfolding head_by
by_within end (Ok None) w = omega arith
by_within end (Err k) w = w.0
by_within end (Ok (Some (ItemHead.Primitive tag start n))) w =
    pick_cases (HeadWithin end) (ltb (end - start) n) (λ _. omega arith) (λ g. omega (arith, ltb-false (end - start) n g))
by_within end (Ok (Some (ItemHead.Definite c start n))) w =
    pick_cases (HeadWithin end) (ltb (end - start) n) (λ _. omega arith) (λ g. omega (arith, ltb-false (end - start) n g))
by_within end (Ok (Some (ItemHead.Open c start))) w = omega arith

pub head-within : (inside : Bool) (u : List ℕ) → HeadWithin (length u) (head_of inside u)
unfolding head_of
head-within inside u = by_within (length u) (form_of inside u) (form_within inside u)

-- The same of what a call answers: by its contract, and by the arm that it is in.
pub head_found : (inside : Bool) (u : List ℕ) {r h : Result ItemHead Fault} → r ≡ head_of inside u → r ≡ h → HeadWithin (length u) h
head_found inside u e f = subst (HeadWithin (length u)) (sym e ∙ f) (head-within inside u)

pub length_found : (u : List ℕ) {r l : Result (Option Length) Fault} → r ≡ length_of u → r ≡ l → LengthWithin (length u) l
length_found u e f = subst (LengthWithin (length u)) (sym e ∙ f) (length-within u)

pub channel_found : (u : List ℕ) {r c : Result (Option (ℕ × ℕ)) Fault} → r ≡ channel_of 4 0 0 u → r ≡ c → ChannelWithin 0 4 (length u) c
channel_found u e f = subst (ChannelWithin 0 4 (length u)) (sym e ∙ f) (channel-within 4 0 0 u)

-- ---- the head alone, from its first octet

pub form_none : (inside : Bool) (u : List ℕ) → length u ≡ 0 → (Ok None) ≡ form_of inside u
unfolding form_of
form_none inside [] e = refl
form_none inside (b ∷ u) e = let z : ⊥ = omega arith in absurd z

pub form_context : (inside : Bool) (u : List ℕ) → (length u ≡ 0 → ⊥) → unknown_context (first u) ≡ true → Err ContextTag ≡ form_of inside u
unfolding form_of
form_context inside [] n t = absurd (n refl)
form_context inside (b ∷ u) n t = simp t

pub form_barred : (inside : Bool) (u : List ℕ) → (length u ≡ 0 → ⊥) → unknown_context (first u) ≡ false → both inside (root_only (first u)) ≡ true → Err BarredTag ≡ form_of inside u
unfolding form_of
form_barred inside [] n t b = absurd (n refl)
form_barred inside (a ∷ u) n t b = simp (t, b)

pub form_group : (inside : Bool) (u : List ℕ) → (length u ≡ 0 → ⊥) → unknown_context (first u) ≡ false → both inside (root_only (first u)) ≡ false → first u ≡ 63 → group_form (drop 1 u) (channel_of 4 0 0 (drop 1 u)) ≡ form_of inside u
unfolding form_of
form_group inside [] n t b e = absurd (n refl)
form_group inside (a ∷ u) n t b e = simp (t, b, eq-eqb a 63 e)

pub form_primitive : (inside : Bool) (u : List ℕ) → (length u ≡ 0 → ⊥) → unknown_context (first u) ≡ false → both inside (root_only (first u)) ≡ false → (first u ≡ 63 → ⊥) → primitive_form (first u) (length_of (drop 1 u)) ≡ form_of inside u
unfolding form_of
form_primitive inside [] n t b e = absurd (n refl)
form_primitive inside (a ∷ u) n t b e = simp (t, b, ne_eqb a 63 e)

-- ---- the head with a value that fits

module _ (inside : Bool) (u : List ℕ) (start n : ℕ) (h : start + n ≤ length u) where
  value-fits : ltb (length u - start) n ≡ false
  value-fits = le-ltb (length u - start) n (omega arith)

  pub primitive_fits : (tag : ℕ) → form_of inside u ≡ Ok (Some (ItemHead.Primitive tag start n)) → head_of inside u ≡ Ok (ItemHead.Primitive tag start n)
  unfolding head_of head_by
  primitive_fits tag e = rw (e, value-fits)

  pub definite_fits : (channel : ℕ) → form_of inside u ≡ Ok (Some (ItemHead.Definite channel start n)) → head_of inside u ≡ Ok (ItemHead.Definite channel start n)
  unfolding head_of head_by
  definite_fits channel e = rw (e, value-fits)

-- What is left of a list from k on, as a part of it has it.
pub rest-is : (k : ℕ) (u : List ℕ) → take (length u - k) (drop k u) ≡ drop k u
rest-is k u = take_all (length u - k) (drop k u) (rw length-drop (omega arith))

pub rest-whole : (k : ℕ) (u : List ℕ) → take (length u) (drop k u) ≡ drop k u
rest-whole k u = take_all (length u) (drop k u) (rw length-drop (omega arith))
