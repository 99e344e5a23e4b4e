-- A file is refused exactly as document 01's tables say. At a cursor that is reached the walk and the interpretation together stop with what the first
-- row gives whose condition holds there; the first such cursor decides.
--     cursor_first       what stands at a cursor, by the rows there
--     refused_exactly    the verdict, by the rows
--     refused_numbered   the number of a refusal
-- Assumes nothing.
use Rattle.heads.specs.Faults.{number_of}
use Rattle.heads.specs.declared.Fault.{Fault}
use Rattle.heads.specs.declared.ItemHead.{ItemHead}
use Rattle.std.specs.Prelude.{Result, Ok, Err, Option, Some, None}
use Prim.Native.Nat.{ℕ, ◌+◌, ◌-◌, ◌≤◌, ◌<◌}
use mathlib.Core.Path.{◌≡◌, refl, sym, ap, ◌∙◌}
use mathlib.Core.Logic.{◌↔◌}
use mathlib.Core.List.{List, [], ◌∷◌, ◌++◌, append-nil}
use mathlib.Core.Option.{Option as Maybe, none, some}
use mathlib.Core.Bool.{Bool, true, false}
use native.Mathlib.Omega.{arith}
use borrow.Author.Tests.{ltb-true, ltb-false, lt-ltb, le-ltb, eqb-true}
use lib.Dec.{ltb, eqb}
use lib.ListN.{length, drop, take-append-drop, length-drop}
use lib.Seq.{drop-drop, drop-append-le, take-append-le}
use Rattle.octets.specs.Pick.{pick}
use Rattle.octets.proofs.Pick.{pick_cases, both_split}
use Rattle.heads.specs.declared.Refusal.{Refusal}
use Rattle.heads.specs.declared.Fault.TheVariants.{ShortWaveform, LongFile}
use Rattle.heads.specs.Head.{head_of}
use Rattle.items.specs.declared.Item.{Item}
use Rattle.items.specs.declared.Cursor.{Cursor}
use Rattle.items.specs.declared.Within.{Within}
use Rattle.items.specs.Walk.{refusal, item, is_inside, extent, ended, ends_open, item_of, next_in, next_of, items_from}
use Rattle.items.proofs.Walks.{items_found, items_refused}
use Rattle.standing.specs.Standing.{octets_limit}
use Rattle.effects.specs.Effects.{value_at, effect_of}
use Rattle.verdict.specs.Verdict.{State, Outcome, goes, refuses, first_state, carried, place_at, refused, interpret, verdict}
use Rattle.verdict.proofs.Keeps.{reached-same, meaning, first_cursor, items_first, interpret-refuses, interpret-fault, verdict_law}
use Rattle.theorems.specs.Rows.{length_field, length_in, value_in, item_rows, end_rows, rows_at}
use Rattle.theorems.specs.Refusing.{around, ahead, DueAt, Refusing, over_limit, stops}
use Rattle.verdict.specs.Reached.{Reached, begin, behind}
use Rattle.theorems.proofs.Due.{first_due, due_exactly, otherwise, first_append, due_numbered}
use Rattle.theorems.proofs.HeadRows.{ReadPrimitive, ReadGroup, HeadRead, head_rows, head_reads}
use Rattle.theorems.proofs.FrameRows.{stopped}
use Rattle.theorems.proofs.ValueRows.{body_rows, mark_first, group_first, plain_first, member_first}

-- ---- the value of an item

-- The octets ahead of a place are the front of those that the file has from there on.
ahead_front : (s : List ℕ) (at : ℕ) (w : Within) → (b : List ℕ) × (extent s at w ++ b ≡ drop at s)
ahead_front s at Within.Root = ([], append-nil (drop at s))
ahead_front s at (Within.Definite channel end) = (drop (end - at) (drop at s), take-append-drop (end - at) (drop at s))
ahead_front s at (Within.Open channel place) = ([], append-nil (drop at s))

-- The value that a head leads to in the file is the one that the rows read.
value_same : (s : List ℕ) (at : ℕ) (w : Within) (tag : ℕ) (u : List ℕ) → extent s at w ≡ tag ∷ u → (start len : ℕ) {t : ℕ} {inside : Bool} {found : Maybe Refusal} → ReadPrimitive found inside tag u t start len → value_at s (at + start) len ≡ value_in u
value_same s at w tag u e start len p =
    let f = ahead_front s at w in
    let d = length-drop (length_field u) u in
    rw (← drop-drop start at s, ← f.1, e, p.same_start, p.same_length)
    (rw (drop-append-le (length_field u) u f.0 (omega arith)) (take-append-le (length_in u) (drop (length_field u) u) f.0 (omega arith)))

-- ---- what stands at a cursor

module _ (s : List ℕ) (x : State) where
  -- What is refused at a cursor, by what stands there.
  abbrev refusal_by : Result (Option (Item × Cursor)) Refusal → Maybe Refusal
  refusal_by (Ok (Some (i, d))) = stopped (place_at i) (meaning s x i)
  refusal_by (Ok None) = none
  refusal_by (Err r) = some r

  end_first : (w : Within) → refusal_by (ended w) ≡ first_due (end_rows w)
  end_first Within.Root = refl
  end_first (Within.Definite channel end) = refl
  end_first (Within.Open channel place) = refl

  module _ (at tag : ℕ) (u : List ℕ) where
    -- The rows of the head come first.
    rows_split : (inside : Bool) → first_due (item_rows x at inside tag u) ≡ otherwise (first_due (head_rows x at inside tag u)) (first_due (body_rows x at inside tag u))
    rows_split inside = ap first_due (sym (take-append-drop 6 (item_rows x at inside tag u))) ∙ first_append (head_rows x at inside tag u) (body_rows x at inside tag u)

    rows_behind : (inside : Bool) → first_due (head_rows x at inside tag u) ≡ none → first_due (item_rows x at inside tag u) ≡ first_due (body_rows x at inside tag u)
    rows_behind inside n = rows_split inside ∙ ap (λ (o : Maybe Refusal). otherwise o (first_due (body_rows x at inside tag u))) n

    group_found : (inside : Bool) (channel : ℕ) → ReadGroup (first_due (head_rows x at inside tag u)) tag u channel → stopped at (meaning s x (Item.Group at channel)) ≡ first_due (item_rows x at inside tag u)
    unfolding effect_of
    group_found inside channel p = rw (rows_behind inside p.free, p.same-channel) (group_first s x at u inside tag p.group)

    -- An item that is read, whose value stands in the file.
    module _ (inside : Bool) (t start len : ℕ) (p : ReadPrimitive (first_due (head_rows x at inside tag u)) inside tag u t start len) (value : value_at s (at + start) len ≡ value_in u) where
      plain_found : inside ≡ false → stopped at (meaning s x (Item.Plain at t (at + start) len)) ≡ first_due (item_rows x at inside tag u)
      unfolding effect_of
      plain_found i = rw (rows_behind inside p.free, value, p.same_tag, i) (plain_first s x at u (at + start) tag p.primitive)

      member_found : inside ≡ true → (channel : ℕ) → stopped at (meaning s x (Item.Member at channel t (at + start) len)) ≡ first_due (item_rows x at inside tag u)
      unfolding effect_of
      member_found i channel = rw (rows_behind inside p.free, value, p.same_tag, i) (member_first s x at u channel tag p.primitive (rw i at p.allowed))

      mark_found : inside ≡ true → ends_open t len ≡ true → stopped at (meaning s x (Item.Mark at)) ≡ first_due (item_rows x at inside tag u)
      unfolding effect_of carried
      mark_found i m =
          let z : tag ≡ 0 = sym p.same_tag ∙ eqb-true t 0 (both_split (eqb t 0) (eqb len 0) m).0 in
          rw (rows_behind inside p.free, i, z) (mark_first s x at u)

    item_first : (w : Within) → extent s at w ≡ tag ∷ u → (h : Result ItemHead Fault) → HeadRead (first_due (head_rows x at (is_inside w) tag u)) at (is_inside w) tag u h → refusal_by (item_of at w h) ≡ first_due (item_rows x at (is_inside w) tag u)
    unfolding item_of place_at
    item_first w e (Err n) p = rw (rows_split (is_inside w), p)
    item_first w e (Ok (ItemHead.Definite channel start len)) p = group_found (is_inside w) channel p
    item_first w e (Ok (ItemHead.Open channel start)) p = group_found (is_inside w) channel p
    item_first Within.Root e (Ok (ItemHead.Primitive t start len)) p =
        plain_found false t start len p (value_same s at Within.Root tag u e start len p) refl
    item_first (Within.Definite channel end) e (Ok (ItemHead.Primitive t start len)) p =
        member_found true t start len p (value_same s at (Within.Definite channel end) tag u e start len p) refl channel
    item_first (Within.Open channel place) e (Ok (ItemHead.Primitive t start len)) p =
        let value = value_same s at (Within.Open channel place) tag u e start len p in
        pick_cases (λ (n : Result (Option (Item × Cursor)) Refusal). refusal_by n ≡ first_due (item_rows x at true tag u)) (ends_open t len)
        (λ m. mark_found true t start len p value refl m)
        (λ m. member_found true t start len p value refl channel)

  -- What is refused at a cursor is what the first row gives whose condition holds there.
  cursor_first : (c : Cursor) → refusal_by (next_of s c) ≡ first_due (rows_at x c.at (around c) (ahead s c))
  unfolding next_of next_in rows_at
  cursor_first c = by (ahead s c) refl
    where
      by : (u : List ℕ) → ahead s c ≡ u → refusal_by (next_in c.at (around c) u) ≡ first_due (rows_at x c.at (around c) u)
      by [] e = end_first (around c)
      by (tag ∷ u) e =
          let inside = is_inside (around c) in
          item_first c.at tag u (around c) e (head_of inside (tag ∷ u)) (head_reads x c.at inside tag u)

-- ---- a file

module _ (s : List ℕ) where
  -- A cursor that is reached, and what is refused there.
  record Stopped (r : Refusal) : Type 0 where
    state : State
    cursor : Cursor
    reached : Reached s state cursor
    given : refusal_by s state (next_of s cursor) ≡ some r

  stop-refused : (x : State) (c : Cursor) (r : Refusal) (n : Result (Option (Item × Cursor)) Refusal) → next_of s c ≡ n → refusal_by s x n ≡ some r → interpret s x (items_from s c) ≡ refused r
  stop-refused x c r (Ok (Some (i, d))) e a = ap (interpret s x) (items_found s c i d e) ∙ by (meaning s x i) refl a
    where
      by : (o : Outcome) → meaning s x i ≡ o → stopped (place_at i) o ≡ some r → interpret s x (item i (items_from s d)) ≡ refused r
      by (goes y) m f = let z : ◌≡◌ {A = ℕ} 0 1 = cc in let w : ⊥ = omega arith in absurd w
      by (refuses n) m f = let q : refusal n (place_at i) ≡ r = cc in interpret-refuses s x i (items_from s d) n m ∙ ap refused q
  stop-refused x c r (Ok None) e a = let z : ◌≡◌ {A = ℕ} 0 1 = cc in let w : ⊥ = omega arith in absurd w
  stop-refused x c r (Err q) e a = let f : q ≡ r = cc in ap (interpret s x) (items_refused s c q e) ∙ interpret-fault s x q ∙ ap refused f

  refused-stops : (r : Refusal) → interpret s first_state (items_from s first_cursor) ≡ refused r → Stopped r
  refused-stops r e =
      verdict_law s (Reached s) (λ x c i d y p q m. behind p q m)
      (λ v. (q : Refusal) → v ≡ refused q → Stopped q)
      (λ x c p q f. let z : ◌≡◌ {A = ℕ} 0 1 = cc in let w : ⊥ = omega arith in absurd w)
      (λ x c t p f q g. let h : t ≡ q = cc in record { state = x; cursor = c; reached = p; given = rw f (ap some h) })
      (λ x c i d n p f m q g. let h : refusal n (place_at i) ≡ q = cc in record { state = x; cursor = c; reached = p; given = rw (f, m) (ap some h) })
      first_state first_cursor begin r e

  -- What is due at a cursor that is reached is what is refused there.
  due-stops : (x : State) (c : Cursor) (r : Refusal) → DueAt s x c r ↔ (refusal_by s x (next_of s c) ≡ some r)
  due-stops x c r =
      let e = cursor_first s x c in
      let d = due_exactly (rows_at x c.at (around c) (ahead s c)) r in
      (λ a. e ∙ d.0 a, λ a. d.1 (sym e ∙ a))

  by_limit : (b : Bool) → ltb octets_limit (length s) ≡ b → verdict s ≡ pick b (refused (refusal LongFile 0)) (interpret s first_state (items_from s first_cursor))
  unfolding verdict
  by_limit b t = rw (t, items_first s)

  refused_refusing : (r : Refusal) (b : Bool) → ltb octets_limit (length s) ≡ b → verdict s ≡ refused r → Refusing s r
  refused_refusing r true t e =
      let f = sym (by_limit true t) ∙ e in
      let q : refusal LongFile 0 ≡ r = cc in
      rw (← q) (over_limit (ltb-true octets_limit (length s) t))
  refused_refusing r false t e =
      let h = ltb-false octets_limit (length s) t in
      let a = refused-stops r (sym (by_limit false t) ∙ e) in
      stops a.state a.cursor r h a.reached ((due-stops a.state a.cursor r).1 a.given)

  refusing_refused : (r : Refusal) → Refusing s r → verdict s ≡ refused r
  refusing_refused _ (over_limit h) = by_limit true (lt-ltb octets_limit (length s) h)
  refusing_refused _ (stops x c r h p d) =
      by_limit false (le-ltb octets_limit (length s) h) ∙ sym (reached-same s p) ∙ stop-refused x c r (next_of s c) refl ((due-stops x c r).0 d)

  -- A file is refused with a number at a place exactly when the tables of document 01 say so.
  pub refused_exactly : (r : Refusal) → (verdict s ≡ refused r) ↔ Refusing s r
  refused_exactly r = (refused_refusing r (ltb octets_limit (length s)) refl, refusing_refused r)

  -- Its number is one of the table's, 1 to 15, and not 14, which is retired.
  pub refused_numbered : (r : Refusal) → verdict s ≡ refused r → (0 < number_of r.fault) × (number_of r.fault ≤ number_of LongFile) × (r.fault ≡ ShortWaveform → ⊥)
  refused_numbered r e = by r ((refused_exactly r).0 e)
    where
      by : (q : Refusal) → Refusing s q → (0 < number_of q.fault) × (number_of q.fault ≤ number_of LongFile) × (q.fault ≡ ShortWaveform → ⊥)
      by _ (over_limit h) = (omega arith, omega arith, λ k. omega (arith, ap number_of k))
      by _ (stops x c q h p d) = let n = due_numbered x c.at (around c) (ahead s c) q d in (n.0, omega arith, λ k. omega (arith, ap number_of k))
