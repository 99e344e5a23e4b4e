-- An item of a file, seen through the octets s of the file that have come: what stands there in s with t behind it.
--     ends_in, Whole             where the octets end that an item may take: with the file, or with the definite group around it
--     next_faulty, next_wanting    a fault of form in a head; a head that is cut off
--     next_fits, next_past      an item whose value fits, and one whose value does not
--     next_definite, -definite-past, -open    groups
-- Assumes nothing.
use Rattle.heads.specs.declared.Fault.{Fault}
use Rattle.heads.specs.declared.ItemHead.{ItemHead}
use Rattle.std.specs.Prelude.{Ok, Err, Some, Result, Option, None}
use Prim.Native.Nat.{ℕ, ◌+◌, ◌-◌, ◌≤◌, ◌<◌}
use mathlib.Core.Path.{◌≡◌, refl, sym, ◌∙◌, ap, subst}
use mathlib.Core.List.{List, [], ◌++◌, append-nil}
use native.Mathlib.Omega.{arith}
use borrow.Author.Tests.{lt-ltb, le-ltb}
use lib.ListN.{length, take, drop, length-append, length-drop}
use lib.Seq.{drop-append-le, take-append-add, length-take-le}
use Rattle.heads.specs.Head.{form_of, head_by, head_of}
use Rattle.heads.specs.declared.Fault.TheVariants.{PastEnd}
use Rattle.heads.proofs.Forms.{FormKept, form_keeps}
use Rattle.items.specs.declared.Within.{Within}
use Rattle.items.specs.declared.Cursor.{Cursor}
use Rattle.items.specs.declared.Item.{Item}
use Rattle.items.specs.Walk.{refusal, cursor, stands_in, is_inside, extent, item_of, next_of}
use Rattle.items.proofs.Walks.{next-head}

-- Where the octets end that an item may take, in a file of n octets.
abbrev pub ends_in : Within → ℕ → ℕ
ends_in Within.Root n = n
ends_in (Within.Definite channel end) n = end
ends_in (Within.Open channel place) n = n

-- The file reaches to the end of the definite group around.
abbrev pub Whole : Within → ℕ → Type 0
Whole Within.Root n = Unit {0}
Whole (Within.Definite channel end) n = end ≤ n
Whole (Within.Open channel place) n = Unit {0}

-- No more octets have come than belong to the group.
abbrev pub Inside : Within → ℕ → Type 0
Inside Within.Root n = Unit {0}
Inside (Within.Definite channel end) n = n ≤ end
Inside (Within.Open channel place) n = Unit {0}

pub longer : (s t : List ℕ) → length s ≤ length (s ++ t)
longer s t = rw length-append (omega arith)

-- What is still to come of those octets.
abbrev pub tail_of : List ℕ → List ℕ → Within → List ℕ
tail_of s t Within.Root = t
tail_of s t (Within.Definite channel end) = take (end - length s) t
tail_of s t (Within.Open channel place) = t

module _ (s t : List ℕ) (c : Cursor) (here : c.at < length s) where
  abbrev around : Within
  around = stands_in c.at c.within

  -- The octets of the item that have come, and perhaps more.
  abbrev come : List ℕ
  come = drop c.at s

  come_long : length come ≡ length s - c.at
  come_long = length-drop c.at s

  behind_come : drop c.at (s ++ t) ≡ come ++ t
  behind_come = drop-append-le c.at s t (omega arith)

  extent_by : (w : Within) → Inside w (length s) → extent (s ++ t) c.at w ≡ come ++ tail_of s t w
  extent_by Within.Root h = behind_come
  extent_by (Within.Definite channel end) h =
      let e : end - c.at ≡ length come + (end - length s) = omega (arith, come_long) in
      ap (take (end - c.at)) behind_come ∙ ap (λ (n : ℕ). take n (come ++ t)) e ∙ take-append-add come t (end - length s)
  extent_by (Within.Open channel place) h = behind_come

  room_by : (w : Within) → Inside w (length s) → Whole w (length (s ++ t)) → length (come ++ tail_of s t w) ≡ ends_in w (length (s ++ t)) - c.at
  room_by Within.Root h f = simp length-append (omega (arith, come_long, length-append s t))
  room_by (Within.Definite channel end) h f =
      let e : length (take (end - length s) t) ≡ end - length s = length-take-le (end - length s) t (omega (arith, length-append s t)) in
      simp length-append (omega (arith, come_long, e))
  room_by (Within.Open channel place) h f = simp length-append (omega (arith, come_long, length-append s t))

  module _ (inside : Inside around (length s)) (whole : Whole around (length (s ++ t))) where
    abbrev all : List ℕ
    all = come ++ tail_of s t around

    abbrev room : ℕ
    room = ends_in around (length (s ++ t)) - c.at

    all-some : length all ≡ 0 → ⊥
    all-some e = omega (arith, length-append come (tail_of s t around), come_long)

    -- What stands there, by the head.
    by_form : (f : Result (Option ItemHead) Fault) → form_of (is_inside around) all ≡ f → next_of (s ++ t) c ≡ item_of c.at around (head_by room f)
    unfolding head_of
    by_form f e =
        sym
        (next-head (s ++ t) c around all refl (sym (extent_by around inside)) all-some (is_inside around) (head_of (is_inside around) all) (head_by room f) refl refl
        (λ i. head_by (room_by around inside whole i) (e i)))

    -- The same where the octets that have come settle the head.
    settled : (f : Result (Option ItemHead) Fault) → form_of (is_inside around) come ≡ f → FormKept f (form_of (is_inside around) all)
    settled f e = subst (λ (g : Result (Option ItemHead) Fault). FormKept g (form_of (is_inside around) all)) e (form_keeps (is_inside around) come (tail_of s t around))

    pub next_faulty : (fault : Fault) → form_of (is_inside around) come ≡ Err fault → next_of (s ++ t) c ≡ Err (refusal fault c.at)
    unfolding head_by item_of
    next_faulty fault e = by_form (Err fault) (settled (Err fault) e)

    module _ (tag start len : ℕ) (e : form_of (is_inside around) come ≡ Ok (Some (ItemHead.Primitive tag start len))) where
      pub next_fits : start + len ≤ room → next_of (s ++ t) c ≡ item_of c.at around (Ok (ItemHead.Primitive tag start len))
      unfolding head_by
      next_fits h =
          let k : len ≤ room - start = omega arith in
          by_form (Ok (Some (ItemHead.Primitive tag start len))) (settled (Ok (Some (ItemHead.Primitive tag start len))) e) ∙ simp (le-ltb (room - start) len k)

      pub next_past : start ≤ room → room < start + len → next_of (s ++ t) c ≡ Err (refusal PastEnd c.at)
      unfolding head_by item_of
      next_past g h =
          let k : room - start < len = omega arith in
          by_form (Ok (Some (ItemHead.Primitive tag start len))) (settled (Ok (Some (ItemHead.Primitive tag start len))) e) ∙ simp (lt-ltb (room - start) len k)

    module _ (channel start : ℕ) where
      pub next_definite : (len : ℕ) → form_of (is_inside around) come ≡ Ok (Some (ItemHead.Definite channel start len)) → start + len ≤ room
          → next_of (s ++ t) c ≡ Ok (Some (Item.Group c.at channel, cursor (c.at + start) (Within.Definite channel (c.at + start + len))))
      unfolding head_by item_of
      next_definite len e h =
          let k : len ≤ room - start = omega arith in
          by_form (Ok (Some (ItemHead.Definite channel start len))) (settled (Ok (Some (ItemHead.Definite channel start len))) e) ∙ simp (le-ltb (room - start) len k)

      pub next_definite_past : (len : ℕ) → form_of (is_inside around) come ≡ Ok (Some (ItemHead.Definite channel start len)) → start ≤ room → room < start + len → next_of (s ++ t) c ≡ Err (refusal PastEnd c.at)
      unfolding head_by item_of
      next_definite_past len e g h =
          let k : room - start < len = omega arith in
          by_form (Ok (Some (ItemHead.Definite channel start len))) (settled (Ok (Some (ItemHead.Definite channel start len))) e) ∙ simp (lt-ltb (room - start) len k)

      pub next_open : form_of (is_inside around) come ≡ Ok (Some (ItemHead.Open channel start))
          → next_of (s ++ t) c ≡ Ok (Some (Item.Group c.at channel, cursor (c.at + start) (Within.Open channel c.at)))
      unfolding head_by item_of
      next_open e = by_form (Ok (Some (ItemHead.Open channel start))) (settled (Ok (Some (ItemHead.Open channel start))) e)

    -- Nothing is still to come.
    pub next_wanting : tail_of s t around ≡ [] → form_of (is_inside around) come ≡ Ok None → next_of (s ++ t) c ≡ Err (refusal PastEnd c.at)
    unfolding head_by item_of
    next_wanting n e = by_form (Ok None) (ap (λ (u : List ℕ). form_of (is_inside around) (come ++ u)) n ∙ ap (form_of (is_inside around)) (append-nil come) ∙ e)
