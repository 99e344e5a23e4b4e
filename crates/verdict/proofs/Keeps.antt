-- Laws of the interpretation: what every item keeps holds to the end.
--     interpret-goes, -refuses    one item interpreted
--     verdict_law     what holds of each way to stop holds of the interpretation's verdict
--     frames-kept     the frames of an accepted interpretation are those of a state that is reached
--     accepted_by, accepted-kept    the same of an accepted file, which is no longer than the limit
--     within_limit    within the limit 15 makes no difference
--     reached_keeps, reached-unlimited, reached-verdict    what every item keeps holds where a file's items lead; what is left of the file there gives the
--                     verdict
-- Assumes nothing.
use Rattle.std.specs.Prelude.{Result, Ok, Err, Option, Some, None}
use mathlib.Core.Path.{◌≡◌, refl, sym, ap, ◌∙◌}
use mathlib.Core.List.{List}
use mathlib.Core.Bool.{Bool, true, false}
use Prim.Native.Nat.{ℕ, zero, suc, ◌-◌, ◌≤◌, ◌<◌}
use native.Mathlib.Omega.{arith}
use borrow.Author.Tests.{ltb-false, le-ltb}
use lib.Dec.{ltb}
use lib.ListN.{length}
use Rattle.octets.specs.Pick.{pick}
use Rattle.items.specs.declared.Item.{Item}
use Rattle.heads.specs.declared.Fault.{Fault}
use Rattle.heads.specs.declared.Refusal.{Refusal}
use Rattle.items.specs.declared.Cursor.{Cursor}
use Rattle.items.specs.declared.Within.TheVariants.{Root}
use Rattle.heads.specs.declared.Fault.TheVariants.{LongFile}
use Rattle.items.specs.Walk.{Items, item, finished, fault, cursor, next_of, items_from, items_of, refusal}
use Rattle.items.proofs.Walks.{next-later, items_found, items_end, items_refused}
use Rattle.layout.specs.Frame.{Frame}
use Rattle.effects.specs.Effects.{effect_of}
use Rattle.standing.specs.Standing.{octets_limit}
use Rattle.verdict.specs.Verdict.{State, first_state, Outcome, goes, refuses, carried, place_at, Verdict, accepted, refused, after_item, interpret, verdict, unlimited}
use Rattle.verdict.specs.Reached.{Reached, begin, behind}

-- What an item does.
abbrev pub meaning : List ℕ → State → Item → Outcome
meaning s x i = carried s x (effect_of s x.standing i)

-- ---- one item

module _ (s : List ℕ) (x : State) (i : Item) (more : Items) where
  interpret-item : interpret s x (item i more) ≡ after_item (λ y. interpret s y more) (place_at i) (meaning s x i)
  unfolding interpret
  interpret-item = refl

  interpret-goes : (y : State) → meaning s x i ≡ goes y → interpret s x (item i more) ≡ interpret s y more
  unfolding after_item
  interpret-goes y e = interpret-item ∙ ap (after_item (λ z. interpret s z more) (place_at i)) e

  pub interpret-refuses : (f : Fault) → meaning s x i ≡ refuses f → interpret s x (item i more) ≡ refused (refusal f (place_at i))
  unfolding after_item
  interpret-refuses f e = interpret-item ∙ ap (after_item (λ z. interpret s z more) (place_at i)) e

pub interpret-finished : (s : List ℕ) (x : State) → interpret s x finished ≡ accepted x.frames
unfolding interpret
interpret-finished s x = refl

pub interpret-fault : (s : List ℕ) (x : State) (r : Refusal) → interpret s x (fault r) ≡ refused r
unfolding interpret
interpret-fault s x r = refl

-- ---- all items

-- A state and a cursor of which I holds, and the frames met.
pub record Kept (I : State → Cursor → Type 0) (fs : List Frame) : Type 0 where
  pub state : State
  pub cursor : Cursor
  pub holds : I state cursor
  pub frames : state.frames ≡ fs

-- I is kept by every item.
abbrev pub Keeps : List ℕ → (State → Cursor → Type 0) → Type 0
Keeps s I = (x : State) (c : Cursor) (i : Item) (d : Cursor) (y : State) → I x c → next_of s c ≡ Ok (Some (i, d)) → meaning s x i ≡ goes y → I y d

module _ (s : List ℕ) (I : State → Cursor → Type 0) (keeps : Keeps s I) where
  -- What holds of the verdict at the end, at a fault of form and at an item refused, each met where I holds, holds of the verdict.
  module _ (Q : Verdict → Type 0) (ends : (x : State) (c : Cursor) → I x c → Q (accepted x.frames))
      (faults : (x : State) (c : Cursor) (r : Refusal) → I x c → next_of s c ≡ Err r → Q (refused r))
      (stops : (x : State) (c : Cursor) (i : Item) (d : Cursor) (f : Fault) → I x c → next_of s c ≡ Ok (Some (i, d)) → meaning s x i ≡ refuses f → Q (refused (refusal f (place_at i)))) where
    by_item : (x : State) (c : Cursor) (i : Item) (d : Cursor) (o : Outcome) → I x c → next_of s c ≡ Ok (Some (i, d)) → meaning s x i ≡ o → ((y : State) → I y d → Q (interpret s y (items_from s d))) → Q (interpret s x (item i (items_from s d)))
    by_item x c i d (goes y) p e f ih = rw (interpret-goes s x i (items_from s d) y f) (ih y (keeps x c i d y p e f))
    by_item x c i d (refuses n) p e f ih = rw (interpret-refuses s x i (items_from s d) n f) (stops x c i d n p e f)

    by_next : (x : State) (c : Cursor) (n : Result (Option (Item × Cursor)) Refusal) → I x c → next_of s c ≡ n → ((y : State) (d : Cursor) → length s - d.at < length s - c.at → I y d → Q (interpret s y (items_from s d))) → Q (interpret s x (items_from s c))
    by_next x c (Ok (Some (i, d))) p e ih =
        let l = next-later s c refl e in
        rw (items_found s c i d e) (by_item x c i d (meaning s x i) p e refl (λ y. ih y d (omega arith)))
    by_next x c (Ok None) p e ih = rw (items_end s c e, interpret-finished s x) (ends x c p)
    by_next x c (Err r) p e ih = rw (items_refused s c r e, interpret-fault s x r) (faults x c r p e)

    by_octets : (k : ℕ) (x : State) (c : Cursor) → length s - c.at < k → I x c → Q (interpret s x (items_from s c))
    by_octets zero x c h p = let z : ⊥ = omega arith in absurd z
    by_octets (suc k) x c h p = by_next x c (next_of s c) p refl (λ y d l q. by_octets k y d (omega arith) q)

    pub verdict_law : (x : State) (c : Cursor) → I x c → Q (interpret s x (items_from s c))
    verdict_law x c p = by_octets (suc (length s - c.at)) x c (omega arith) p

  pub frames-kept : (x : State) (c : Cursor) (fs : List Frame) → I x c → interpret s x (items_from s c) ≡ accepted fs → Kept I fs
  frames-kept x c fs p e =
      verdict_law (λ v. (gs : List Frame) → v ≡ accepted gs → Kept I gs)
      (λ y d q gs f. record { state = y; cursor = d; holds = q; frames = cc })
      (λ y d r q f gs g. let z : ◌≡◌ {A = ℕ} 0 1 = cc in let w : ⊥ = omega arith in absurd w)
      (λ y d i b n q f g gs h. let z : ◌≡◌ {A = ℕ} 0 1 = cc in let w : ⊥ = omega arith in absurd w)
      x c p fs e

-- ---- a file

-- Before the first item.
abbrev pub first_cursor : Cursor
first_cursor = cursor 0 Root

pub items_first : (s : List ℕ) → items_of s ≡ items_from s first_cursor
unfolding items_of
items_first s = refl

limit_by : (s : List ℕ) (fs : List Frame) (b : Bool) (v : Verdict) → ltb octets_limit (length s) ≡ b → pick b (refused (refusal LongFile 0)) v ≡ accepted fs → (length s ≤ octets_limit) × (v ≡ accepted fs)
limit_by s fs true v e f = let z : ◌≡◌ {A = ℕ} 0 1 = cc in let w : ⊥ = omega arith in absurd w
limit_by s fs false v e f = (ltb-false octets_limit (length s) e, f)

pub accepted_by : (s : List ℕ) (fs : List Frame) → verdict s ≡ accepted fs → (length s ≤ octets_limit) × (interpret s first_state (items_from s first_cursor) ≡ accepted fs)
unfolding verdict
accepted_by s fs e = rw (← items_first s) (limit_by s fs (ltb octets_limit (length s)) (interpret s first_state (items_of s)) refl e)

pub accepted-kept : (s : List ℕ) (I : State → Cursor → Type 0) → Keeps s I → I first_state first_cursor → (fs : List Frame) → verdict s ≡ accepted fs → Kept I fs
accepted-kept s I keeps p fs e = frames-kept s I keeps first_state first_cursor fs p (accepted_by s fs e).1

-- Within the limit 15 makes no difference.
pub within_limit : (s : List ℕ) → length s ≤ octets_limit → verdict s ≡ unlimited s
unfolding verdict unlimited
within_limit s h = simp (le-ltb octets_limit (length s) h)

-- ---- where a file's items lead

module _ (s : List ℕ) where
  pub reached_keeps : (I : State → Cursor → Type 0) → Keeps s I → I first_state first_cursor → {x : State} {c : Cursor} → Reached s x c → I x c
  reached_keeps I keeps h begin = h
  reached_keeps I keeps h (behind {x} {c} {i} {d} {y} r e g) = keeps x c i d y (reached_keeps I keeps h r) e g

  pub reached-same : {x : State} {c : Cursor} → Reached s x c → interpret s x (items_from s c) ≡ interpret s first_state (items_from s first_cursor)
  reached-same begin = refl
  reached-same (behind {x} {c} {i} {d} {y} r e g) =
      sym (interpret-goes s x i (items_from s d) y g) ∙ ap (interpret s x) (sym (items_found s c i d e)) ∙ reached-same r

  pub reached-unlimited : {x : State} {c : Cursor} → Reached s x c → interpret s x (items_from s c) ≡ unlimited s
  unfolding unlimited items_of
  reached-unlimited r = reached-same r

  pub reached-verdict : {x : State} {c : Cursor} → length s ≤ octets_limit → Reached s x c → interpret s x (items_from s c) ≡ verdict s
  reached-verdict h r = reached-unlimited r ∙ sym (within_limit s h)
