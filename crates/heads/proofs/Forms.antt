-- Laws of an item's head as its octets come.
--     form_found, form_wants    a head lies in the octets that have come, and takes ten at most
--     form_keeps                once the head is there, octets that follow change nothing
--     form_exact                a head ends with the octet that settles it
--     inside_allowed            no group stands in a group, and no tag that may not
-- Where octets follow, each part of a head, and so the head, takes more than had come if it was still wanted, and else stays as it was.
-- Assumes nothing.
use Rattle.std.specs.Prelude.{Result, Ok, Err, Option, Some, None}
use Rattle.heads.specs.declared.Fault.{Fault}
use Rattle.heads.specs.declared.Length.{Length}
use Rattle.heads.specs.declared.ItemHead.{ItemHead}
use Prim.Native.Nat.{ℕ, zero, suc, ◌+◌, ◌-◌, ◌*◌, ◌%◌, ◌≤◌, ◌<◌}
use mathlib.Core.Path.{◌≡◌, refl, sym, ◌∙◌, ap, subst}
use mathlib.Core.List.{List, [], ◌∷◌, ◌++◌}
use mathlib.Core.Bool.{Bool, true, false}
use mathlib.Core.Logic.{◌⊎◌, inl, inr}
use native.Mathlib.Omega.{arith}
use borrow.Author.Tests.{le-ltb, ltb-true, ltb-false}
use lib.Dec.{ltb, eqb}
use lib.ListN.{length, take, drop, length-append, length-drop}
use lib.Seq.{take-append-le, drop-append-le}
use Rattle.octets.specs.Pick.{pick, both}
use Rattle.octets.specs.Number.{big_from}
use Rattle.octets.proofs.Pick.{pick_cases, pick_pairs, either_true}
use Rattle.heads.specs.Head.{channel_of, length_of, unknown_context, root_only, primitive_form, group_length, group_form, form_of}
use Rattle.heads.proofs.Heads.{LengthWithin, length-within, ChannelWithin, channel-within, FormWithin, form_within}

-- ---- how far a head reaches

-- Of what a call answers: by its contract, and by the arm that it is in.
pub form_found : (inside : Bool) (u : List ℕ) {r f : Result (Option ItemHead) Fault} → r ≡ form_of inside u → r ≡ f → FormWithin (length u) f
form_found inside u e g = subst (FormWithin (length u)) (sym e ∙ g) (form_within inside u)

-- While more octets are wanted, fewer than ten have come.
pub form_wants : (inside : Bool) (u : List ℕ) → form_of inside u ≡ (Ok None) → length u < 10
form_wants inside u e = form_found inside u refl e

-- ---- where octets follow

-- What is there takes more than n octets.
abbrev ChannelOver : ℕ → Result (Option (ℕ × ℕ)) Fault → Type 0
ChannelOver n (Ok (Some (v, octets))) = n < octets
ChannelOver n (Ok None) = Unit {0}
ChannelOver n (Err fault) = Unit {0}

abbrev LengthOver : ℕ → Result (Option Length) Fault → Type 0
LengthOver n (Ok (Some (Length.Known v octets))) = n < octets
LengthOver n (Ok (Some (Length.Open octets))) = n < octets
LengthOver n (Ok None) = Unit {0}
LengthOver n (Err fault) = Unit {0}

abbrev FormOver : ℕ → Result (Option ItemHead) Fault → Type 0
FormOver n (Ok None) = Unit {0}
FormOver n (Err k) = Unit {0}
FormOver n (Ok (Some (ItemHead.Primitive tag start len))) = n < start
FormOver n (Ok (Some (ItemHead.Definite channel start len))) = n < start
FormOver n (Ok (Some (ItemHead.Open channel start))) = n < start

-- It takes some.
channel-some : (passed allowed end n : ℕ) (c : Result (Option (ℕ × ℕ)) Fault) → ChannelWithin passed allowed end c → n ≤ passed → ChannelOver n c
channel-some passed allowed end n (Ok (Some (v, octets))) w h = omega arith
channel-some passed allowed end n (Ok None) w h = tt
channel-some passed allowed end n (Err fault) w h = tt

length_some : (end : ℕ) (l : Result (Option Length) Fault) → LengthWithin end l → LengthOver 0 l
length_some end (Ok (Some (Length.Known v octets))) w = w.0
length_some end (Ok (Some (Length.Open octets))) w = w.0
length_some end (Ok None) w = tt
length_some end (Err fault) w = tt

form_some : (end : ℕ) (f : Result (Option ItemHead) Fault) → FormWithin end f → FormOver 0 f
form_some end (Ok None) w = tt
form_some end (Err k) w = tt
form_some end (Ok (Some (ItemHead.Primitive tag start len))) w = w.0
form_some end (Ok (Some (ItemHead.Definite channel start len))) w = w.0
form_some end (Ok (Some (ItemHead.Open channel start))) w = w.0

-- Of a length that takes more than n octets, behind its tag and k octets of a channel number.
primitive_over : (tag n : ℕ) (l : Result (Option Length) Fault) → LengthOver n l → FormOver (suc n) (primitive_form tag l)
unfolding primitive_form
primitive_over tag n (Ok (Some (Length.Known v octets))) o = omega arith
primitive_over tag n (Ok (Some (Length.Open octets))) o = omega arith
primitive_over tag n (Ok None) o = tt
primitive_over tag n (Err number) o = tt

group_length_over : (channel k n m : ℕ) → m ≤ k + n → (l : Result (Option Length) Fault) → LengthOver n l → FormOver (suc m) (group_length channel k l)
unfolding group_length
group_length_over channel k n m h (Ok (Some (Length.Known v octets))) o = omega arith
group_length_over channel k n m h (Ok (Some (Length.Open octets))) o = omega arith
group_length_over channel k n m h (Ok None) o = tt
group_length_over channel k n m h (Err fault) o = tt

group_over : (u : List ℕ) (n : ℕ) (c : Result (Option (ℕ × ℕ)) Fault) → ChannelOver n c → FormOver (suc n) (group_form u c)
unfolding group_form
group_over u n (Ok (Some (v, k))) o =
    group_length_over v k 0 n (omega arith) (length_of (drop k u)) (length_some (length (drop k u)) (length_of (drop k u)) (length-within (drop k u)))
group_over u n (Ok None) o = tt
group_over u n (Err fault) o = tt

-- What was still wanted takes more than had come, and what was there stays.
abbrev Comes : {A : Type 0} → A → (A → Type 0) → A → A → Type 0
Comes wanted Over before after = ((before ≡ wanted) × Over after) ⊎ (after ≡ before)

-- What is made of a length; more is wanted where the length is.
comes_by : (F : Result (Option Length) Fault → (Result (Option ItemHead) Fault)) (n m : ℕ) → F (Ok None) ≡ (Ok None) → ((l : Result (Option Length) Fault) → LengthOver n l → FormOver m (F l))
    → {l k : Result (Option Length) Fault} → Comes (Ok None) (LengthOver n) l k → Comes (Ok None) (FormOver m) (F l) (F k)
comes_by F n m e over {k = k} (inl w) = inl (ap F w.0 ∙ e, over k w.1)
comes_by F n m e over (inr w) = inr (ap F w)

module _ (t : List ℕ) where
  channel_comes : (allowed passed v n : ℕ) (u : List ℕ) → n ≤ passed + length u → Comes (Ok None) (ChannelOver n) (channel_of allowed passed v u) (channel_of allowed passed v (u ++ t))
  unfolding channel_of
  channel_comes zero passed v n u h = inr refl
  channel_comes (suc allowed) passed v n [] h =
      inl (refl, channel-some passed (suc allowed) (length t) n (channel_of (suc allowed) passed v t) (channel-within (suc allowed) passed v t) (omega arith))
  channel_comes (suc allowed) passed v n (a ∷ u) h =
      pick_pairs (Comes (Ok None) (ChannelOver n)) (ltb a 128) (λ _. inr refl)
      (λ _. channel_comes allowed (passed + 1) (v * 128 + a % 128) n u (omega arith))

  length_comes : (u : List ℕ) → Comes (Ok None) (LengthOver (length u)) (length_of u) (length_of (u ++ t))
  unfolding length_of
  length_comes [] = inl (refl, length_some (length t) (length_of t) (length-within t))
  length_comes (a ∷ u) =
      let n = a - 128 in
      let after = pick (ltb (length (u ++ t)) n) (Ok None) (Ok (Some (Length.Known (big_from 0 (take n (u ++ t))) (n + 1)))) in
      let P : Result (Option Length) Fault → Result (Option Length) Fault → Type 0 = Comes (Ok None) (LengthOver (suc (length u))) in
      pick_pairs P (ltb a 128) (λ _. inr refl)
      (λ _. pick_pairs P (eqb n 0) (λ _. inr refl)
      (λ _. pick_pairs P (ltb 4 n) (λ _. inr refl)
      (λ _. pick_cases (λ (l : Result (Option Length) Fault). P l after) (ltb (length u) n)
      (λ f. inl (refl, pick_cases (LengthOver (suc (length u))) (ltb (length (u ++ t)) n) (λ _. tt) (λ _. omega (arith, ltb-true (length u) n f))))
      (λ f. let h = ltb-false (length u) n f in
      inr (rw (le-ltb (length (u ++ t)) n (rw length-append (omega arith)), take-append-le n u t h))))))

  group_stays : (u : List ℕ) (c : Result (Option (ℕ × ℕ)) Fault) → ChannelWithin 0 4 (length u) c → Comes (Ok None) (FormOver (suc (length u))) (group_form u c) (group_form (u ++ t) c)
  unfolding group_form group_length
  group_stays u (Ok (Some (v, k))) w =
      let n = length (drop k u) in
      let h : k ≤ length u = omega arith in
      rw (drop-append-le k u t h)
      (comes_by (group_length v k) n (suc (length u)) refl (group_length_over v k n (length u) (rw length-drop (omega arith))) (length_comes (drop k u)))
  group_stays u (Ok None) w = inr refl
  group_stays u (Err fault) w = inr refl

  group_comes : (u : List ℕ) (c d : Result (Option (ℕ × ℕ)) Fault) → ChannelWithin 0 4 (length u) c → Comes (Ok None) (ChannelOver (length u)) c d → Comes (Ok None) (FormOver (suc (length u))) (group_form u c) (group_form (u ++ t) d)
  unfolding group_form
  group_comes u c d w (inl e) = inl (ap (group_form u) e.0, group_over (u ++ t) (length u) d e.1)
  group_comes u c d w (inr e) = rw e (group_stays u c w)

  form_comes : (inside : Bool) (u : List ℕ) → Comes (Ok None) (FormOver (length u)) (form_of inside u) (form_of inside (u ++ t))
  unfolding form_of primitive_form
  form_comes inside [] = inl (refl, form_some (length t) (form_of inside t) (form_within inside t))
  form_comes inside (tag ∷ u) =
      let P : Result (Option ItemHead) Fault → Result (Option ItemHead) Fault → Type 0 = Comes (Ok None) (FormOver (suc (length u))) in
      pick_pairs P (unknown_context tag) (λ _. inr refl)
      (λ _. pick_pairs P (both inside (root_only tag)) (λ _. inr refl)
      (λ _. pick_pairs P (eqb tag 0x3F)
      (λ _. group_comes u (channel_of 4 0 0 u) (channel_of 4 0 0 (u ++ t)) (channel-within 4 0 0 u) (channel_comes 4 0 0 (length u) u (omega arith)))
      (λ _. comes_by (primitive_form tag) (length u) (suc (length u)) refl (primitive_over tag (length u)) (length_comes u))))

-- ---- a head is kept, and ends with the octet that settles it

-- The first where more octets are wanted, else the second.
abbrev pub IfMore : Type 0 → Type 0 → Result (Option ItemHead) Fault → Type 0
IfMore A B (Ok None) = A
IfMore A B (Err k) = B
IfMore A B (Ok (Some (ItemHead.Primitive tag start len))) = B
IfMore A B (Ok (Some (ItemHead.Definite channel start len))) = B
IfMore A B (Ok (Some (ItemHead.Open channel start))) = B

if_more : {A B : Type 0} (f : Result (Option ItemHead) Fault) → (f ≡ (Ok None) → A) → B → IfMore A B f
if_more (Ok None) a b = a refl
if_more (Err k) a b = b
if_more (Ok (Some (ItemHead.Primitive tag start len))) a b = b
if_more (Ok (Some (ItemHead.Definite channel start len))) a b = b
if_more (Ok (Some (ItemHead.Open channel start))) a b = b

-- A fault or a head that was there is there still.
abbrev pub FormKept : Result (Option ItemHead) Fault → Result (Option ItemHead) Fault → Type 0
FormKept f g = IfMore (Unit {0}) (g ≡ f) f

kept_by : (n : ℕ) (f g : Result (Option ItemHead) Fault) → Comes (Ok None) (FormOver n) f g → FormKept f g
kept_by n f g (inl e) = rw e.0 tt
kept_by n f g (inr e) = if_more f (λ _. tt) e

pub form_keeps : (inside : Bool) (u t : List ℕ) → FormKept (form_of inside u) (form_of inside (u ++ t))
form_keeps inside u t = kept_by (length u) (form_of inside u) (form_of inside (u ++ t)) (form_comes t inside u)

-- A head that is there takes n octets.
abbrev pub FormEnds : ℕ → Result (Option ItemHead) Fault → Type 0
FormEnds n (Ok None) = Unit {0}
FormEnds n (Err k) = Unit {0}
FormEnds n (Ok (Some (ItemHead.Primitive tag start len))) = start ≡ n
FormEnds n (Ok (Some (ItemHead.Definite channel start len))) = start ≡ n
FormEnds n (Ok (Some (ItemHead.Open channel start))) = start ≡ n

form_ends : (n : ℕ) (f : Result (Option ItemHead) Fault) → FormOver n f → FormWithin (n + 1) f → FormEnds (n + 1) f
form_ends n (Ok None) o w = tt
form_ends n (Err k) o w = tt
form_ends n (Ok (Some (ItemHead.Primitive tag start len))) o w = omega arith
form_ends n (Ok (Some (ItemHead.Definite channel start len))) o w = omega arith
form_ends n (Ok (Some (ItemHead.Open channel start))) o w = omega arith

-- A head that was not there yet takes all the octets.
abbrev pub FormExact : ℕ → Result (Option ItemHead) Fault → Result (Option ItemHead) Fault → Type 0
FormExact n f g = IfMore (FormEnds n g) (Unit {0}) f

exact_by : (n : ℕ) (f g : Result (Option ItemHead) Fault) → FormWithin (n + 1) g → Comes (Ok None) (FormOver n) f g → FormExact (n + 1) f g
exact_by n f g w (inl e) = rw e.0 (form_ends n g e.1 w)
exact_by n f g w (inr e) = if_more f (λ m. rw (e, m) tt) tt

pub form_exact : (inside : Bool) (u : List ℕ) (b : ℕ) → FormExact (length u + 1) (form_of inside u) (form_of inside (u ++ (b ∷ [])))
form_exact inside u b =
    let v = u ++ (b ∷ []) in
    exact_by (length u) (form_of inside u) (form_of inside v) (rw (length-append u (b ∷ [])) at (form_within inside v)) (form_comes (b ∷ []) inside u)

-- ---- no group stands in a group, and no tag that may not stand there

abbrev pub Allowed : Result (Option ItemHead) Fault → Type 0
Allowed (Ok None) = Unit {0}
Allowed (Err k) = Unit {0}
Allowed (Ok (Some (ItemHead.Primitive tag start len))) = root_only tag ≡ false
Allowed (Ok (Some (ItemHead.Definite channel start len))) = ⊥
Allowed (Ok (Some (ItemHead.Open channel start))) = ⊥

-- A head without a channel number has this tag.
abbrev TagIs : ℕ → Result (Option ItemHead) Fault → Type 0
TagIs tag (Ok None) = Unit {0}
TagIs tag (Err k) = Unit {0}
TagIs tag (Ok (Some (ItemHead.Primitive other start len))) = other ≡ tag
TagIs tag (Ok (Some (ItemHead.Definite channel start len))) = ⊥
TagIs tag (Ok (Some (ItemHead.Open channel start))) = ⊥

primitive_tag : (tag : ℕ) (l : Result (Option Length) Fault) → TagIs tag (primitive_form tag l)
unfolding primitive_form
primitive_tag tag (Ok (Some (Length.Known n octets))) = omega arith
primitive_tag tag (Ok (Some (Length.Open octets))) = omega arith
primitive_tag tag (Ok None) = omega arith
primitive_tag tag (Err fault) = omega arith

tag_allowed : (tag : ℕ) → root_only tag ≡ false → (f : Result (Option ItemHead) Fault) → TagIs tag f → Allowed f
tag_allowed tag h (Ok None) e = tt
tag_allowed tag h (Err k) e = tt
tag_allowed tag h (Ok (Some (ItemHead.Primitive other start len))) e = rw e h
tag_allowed tag h (Ok (Some (ItemHead.Definite channel start len))) e = e
tag_allowed tag h (Ok (Some (ItemHead.Open channel start))) e = e

barred_group : (tag : ℕ) → eqb tag 0x3F ≡ true → root_only tag ≡ true
unfolding root_only
barred_group tag e = simp (e, either_true)

pub inside_allowed : (u : List ℕ) → Allowed (form_of true u)
unfolding form_of
inside_allowed [] = tt
inside_allowed (tag ∷ u) =
    pick_cases Allowed (unknown_context tag) (λ _. tt)
    (λ _. pick_cases Allowed (root_only tag) (λ _. tt)
    (λ e. pick_cases Allowed (eqb tag 0x3F)
    (λ z. let t = barred_group tag z in let w : ◌≡◌ {A = ℕ} 0 1 = cc in let v : ⊥ = omega arith in absurd v)
    (λ _. tag_allowed tag e (primitive_form tag (length_of u)) (primitive_tag tag (length_of u)))))
