-- Laws of a link that goes by value.
--     confined-none, -more, -faulty, -past, -fits, -definite, -open    what a head says in a definite group
--     seen_small          a length that is said has no more than four octets
--     notes_none, notes_limit, notes_then    what a link notes
--     waiting_now, waiting-on, waiting_noted, framed_long, framed_told, waved-stage   refusals that wait, and frames
--     turned_on, turned-frame, turned-refused      what became of an item
--     one_more, one_kept  the octets that are kept, and one more
-- Assumes nothing.
use Rattle.heads.specs.declared.Fault.{Fault}
use Rattle.effects.specs.declared.Effect.{Effect}
use Rattle.heads.specs.declared.Length.{Length}
use Rattle.heads.specs.declared.ItemHead.{ItemHead}
use Rattle.std.specs.Prelude.{Result, Ok, Err, Option, Some, None}
use Rattle.std.proofs.Common.{◌≡◌, ℕ, zero, suc, ◌+◌, ◌-◌, ◌^◌, ◌<◌, ◌≤◌, min, Bool, true, false, eqb, ltb, leb, List, [], ◌∷◌, ◌++◌, length, get_or, take, drop, set, sym, refl, ap, ◌∙◌, subst, mod-eq_of_lt, add-one, arith, length-append, length-take, take_all, take-take, take-suc-set, ltb-false, ltb-true, le-ltb, lt-ltb, eq-eqb, ne_eqb, eqb-true, le-leb}
use mathlib.Core.Logic.{◌⊎◌, inl, inr}
use borrow.Author.Tests.{lt-leb}
use native.Mathlib.Decide.{dec_lt}
use Rattle.octets.specs.Pick.{pick, both}
use Rattle.octets.specs.Number.{Octets, number_of}
use Rattle.octets.proofs.Pick.{pick_cases}
use Rattle.octets.proofs.Laws.{number_first, cap, drop-octets}
use Rattle.heads.specs.declared.Refusal.{Refusal}
use Rattle.heads.specs.Head.{channel_of, length_of, unknown_context, root_only, primitive_form, group_length, group_form, form_of}
use Rattle.heads.proofs.Forms.{form_wants}
use Rattle.heads.specs.declared.Fault.TheVariants.{PastEnd, LongFile}
use Rattle.items.specs.declared.Within.{Within}
use Rattle.items.specs.declared.Cursor.{Cursor}
use Rattle.items.specs.declared.Item.{Item}
use Rattle.items.specs.declared.Item.TheVariants.{Member, Mark}
use Rattle.items.specs.Walk.{cursor, refusal, stands_in, is_inside, ends_open}
use Rattle.standing.specs.Standing.{octets_limit}
use Rattle.effects.specs.Effects.{effect_of}
use Rattle.walk.specs.declared.Waveform.{Waveform}
use Rattle.walk.specs.declared.Head.{Head}
use Rattle.walk.specs.Advance.{Turn, on, effect_turn, stand_of}
use Rattle.taking.specs.declared.Taken.{Taken}
use Rattle.taking.specs.Takes.{turn_by}
use Rattle.taking.specs.Takes as T
use Rattle.dated.specs.Dated.{zero_dated}
use Rattle.settings.specs.declared.Settings.{Settings}
use Rattle.values.proofs.Laws.{width_le}
use Rattle.layout.specs.Frame.{width_in}
use Rattle.words.specs.Words.{records_in}
use Rattle.link.specs.Link as L
use Rattle.link.specs.Link.{Coming, kept_limit, cut_at, lasts_in, group_at, waiting, condemned, waved, stopped_at, turned_by, item_at, within_after, confined, seen_in}
use Rattle.held.specs.declared.Noted.{Noted}
use Rattle.held.specs.declared.Stage.{Stage}
use Rattle.held.specs.Words.{noted_of, refusal_of, answer_by, phase_of}
use Rattle.held.proofs.Laws.{noted_back}
use Rattle.arriving.specs.declared.Link.{Link}
use Rattle.rows.specs.declared.Spot.{Spot}
use Rattle.rows.specs.Rows.{coming_at}
use Rattle.arriving.specs.declared.Arrived.{Arrived}
use Rattle.arriving.specs.Arriving.{kept_of, link_by, core, link_with, in_stage, in_stand, marked_by, counted_by, further_by, untold_by, waved_stage, at_sample, waiting_by, noted_in, Known, due_in, Stays, NotesBy, Notes, ComesNext, DecidedIn, Becomes, Moves, Turns, TurnsOn, Bounded, SmallForm, Seen, Takes, Steps}

-- ---- tests

pub passes_first : (count left : ℕ) → octets_limit < count → true ≡ ltb octets_limit (count + left)
passes_first count left h = sym (lt-ltb octets_limit (count + left) (omega arith))

pub passes_then : (count left : ℕ) → count ≤ octets_limit → ltb (octets_limit - count) left ≡ ltb octets_limit (count + left)
passes_then count left h = by (dec_lt (octets_limit - count) left)
  where
    by : Dec (octets_limit - count < left) → ltb (octets_limit - count) left ≡ ltb octets_limit (count + left)
    by (yes l) = lt-ltb (octets_limit - count) left l ∙ sym (lt-ltb octets_limit (count + left) (omega arith))
    by (no l) = le-ltb (octets_limit - count) left (omega (arith, l)) ∙ sym (le-ltb octets_limit (count + left) (omega (arith, l)))

-- A choice by whether nothing is left.
module _ {A : Type 0} (left : ℕ) (a b : A) where
  pub none_left : left ≡ 0 → a ≡ pick (eqb left 0) a b
  none_left z = sym (ap (λ (t : Bool). pick t a b) (eq-eqb left 0 z))

  pub some_left : (left ≡ 0 → ⊥) → b ≡ pick (eqb left 0) a b
  some_left z = sym (ap (λ (t : Bool). pick t a b) (ne_eqb left 0 z))

-- ---- what is noted

-- A refusal is noted by the number of its fault.
known_of : (r : Refusal) → noted_of (refusal_of (noted_of r)) ≡ noted_of r
known_of r = ap noted_of (noted_back r)

abbrev limit_noted : Noted
limit_noted = noted_of (refusal LongFile 0)

-- The same link, behind no more octets.
pub notes_none : (x : Link) (n : ℕ) → x.core.count ≤ n → NotesBy (x.core.count + 1) n x.core.stage x
notes_none x n h = by x.core.stage refl
  where
    by : (s : Stage) → x.core.stage ≡ s → NotesBy (x.core.count + 1) n s x
    by Stage.Head e = subst Known (sym (ap noted_in e)) tt
    by (Stage.Value tag left) e = subst Known (sym (ap noted_in e)) tt
    by (Stage.Waveform left sequence channel index) e = subst Known (sym (ap noted_in e)) tt
    by (Stage.Waits left r) e = inl (ap noted_in e, h, (let d = ap due_in e in omega (arith, d)))
    by (Stage.Decided a) e = (e, h, omega arith)

-- Behind an octet that passes the limit, where no answer was given.
pub notes_limit : (s : Stage) (y : Link) (k n : ℕ) → L.is_decided (phase_of s []) ≡ false → octets_limit < n → k ≤ n → noted_in y.core.stage ≡ Some limit_noted → NotesBy k n s y
notes_limit Stage.Head y k n d h l e = subst Known (sym e) (known_of (refusal LongFile 0))
notes_limit (Stage.Value tag left) y k n d h l e = subst Known (sym e) (known_of (refusal LongFile 0))
notes_limit (Stage.Waveform left sequence channel index) y k n d h l e = subst Known (sym e) (known_of (refusal LongFile 0))
notes_limit (Stage.Waits left r) y k n d h l e = inr (e, h, l)
notes_limit (Stage.Decided a) y k n d h l e = absurd (subst Holds d tt)
  where
    Holds : Bool → Type 0
    Holds true = Unit {0}
    Holds false = ⊥

-- Behind an octet that passes the limit 15 is noted.
abbrev Past : ℕ → ℕ → Link → Type 0
Past k n y = (noted_in y.core.stage ≡ Some limit_noted) × (octets_limit < n) × (k ≤ n)

-- Some octets, and then more.
pub notes_then : (x y z : Link) (m k : ℕ) → Notes x m y → Notes y k z → Notes x (m + k) z
notes_then x y z m k = by x.core.stage
  where
    Notes_one : Option Noted → Type 0
    Notes_one None = ⊥
    Notes_one (Some r) = Unit {0}

    known : (t : Stage) → Known (noted_in t) → NotesBy (y.core.count + 1) (y.core.count + k) t z → Known (noted_in z.core.stage)
    known Stage.Head h q = q
    known (Stage.Value tag left) h q = q
    known (Stage.Waveform left sequence channel index) h q = q
    known (Stage.Waits left r) h (inl q) = subst Known (sym q.0) h
    known (Stage.Waits left r) h (inr q) = subst Known (sym q.0) (known_of (refusal LongFile 0))
    known (Stage.Decided a) h q = subst Known (sym (ap noted_in q.0)) h

    same : (t : Stage) (r : Noted) → noted_in t ≡ Some r → NotesBy (y.core.count + 1) (y.core.count + k) t z → Stays y.core.count (due_in t) (y.core.count + k) r z ⊎ Past (y.core.count + 1) (y.core.count + k) z
    same Stage.Head r e q = absurd (subst Notes_one (sym e) tt)
    same (Stage.Value tag left) r e q = absurd (subst Notes_one (sym e) tt)
    same (Stage.Waveform left sequence channel index) r e q = absurd (subst Notes_one (sym e) tt)
    same (Stage.Waits left n) r e (inl q) = inl (q.0 ∙ e, q.1, omega (arith, q.2))
    same (Stage.Waits left n) r e (inr q) = inr q
    same (Stage.Decided a) r e q = inl (ap noted_in q.0 ∙ e, q.1, omega (arith, q.2))

    waits : (left : ℕ) (r : Noted) → NotesBy (x.core.count + 1) (x.core.count + m) (Stage.Waits left r) y → Notes y k z → NotesBy (x.core.count + 1) (x.core.count + (m + k)) (Stage.Waits left r) z
    waits left r (inl h) q = on (same y.core.stage r h.0 q)
      where
        on : Stays y.core.count (due_in y.core.stage) (y.core.count + k) r z ⊎ Past (y.core.count + 1) (y.core.count + k) z → NotesBy (x.core.count + 1) (x.core.count + (m + k)) (Stage.Waits left r) z
        on (inl w) = inl (w.0, omega (arith, h.1, w.1), omega (arith, h.2, w.2))
        on (inr w) = inr (w.0, omega (arith, h.1, w.1), omega (arith, w.2))
    waits left r (inr h) q = on (same y.core.stage limit_noted h.0 q)
      where
        on : Stays y.core.count (due_in y.core.stage) (y.core.count + k) limit_noted z ⊎ Past (y.core.count + 1) (y.core.count + k) z → NotesBy (x.core.count + 1) (x.core.count + (m + k)) (Stage.Waits left r) z
        on (inl w) = inr (w.0, omega (arith, h.1), omega (arith, h.2))
        on (inr w) = inr (w.0, omega (arith, h.1), omega (arith, h.2))

    by : (s : Stage) → NotesBy (x.core.count + 1) (x.core.count + m) s y → Notes y k z → NotesBy (x.core.count + 1) (x.core.count + (m + k)) s z
    by Stage.Head h q = known y.core.stage h q
    by (Stage.Value tag left) h q = known y.core.stage h q
    by (Stage.Waveform left sequence channel index) h q = known y.core.stage h q
    by (Stage.Waits left r) h q = waits left r h q
    by (Stage.Decided a) h q =
        let w = subst (λ (t : Stage). NotesBy (y.core.count + 1) (y.core.count + k) t z) h.0 q in
        (w.0, omega (arith, h.1, w.1), omega (arith, h.2, w.2))

-- ---- what is around

module _ (at tag len : ℕ) {w : Within} (channel group : ℕ) (e : w ≡ Within.Open channel group) {t : Bool} (et : t ≡ ends_open tag len) where
  item_by : {i : Item} → i ≡ pick t (Mark at) (Member at channel tag 0 len) → i ≡ item_at w at tag len
  unfolding item_at
  item_by f = f ∙ ap (λ (b : Bool). pick b (Mark at) (Member at channel tag 0 len)) et ∙ ap (λ (k : Within). item_at k at tag len) (sym e)

  pub item_mark : t ≡ true → Mark at ≡ item_at w at tag len
  item_mark y = item_by (ap (λ (b : Bool). pick b (Mark at) (Member at channel tag 0 len)) (sym y))

  pub item_member : t ≡ false → Member at channel tag 0 len ≡ item_at w at tag len
  item_member y = item_by (ap (λ (b : Bool). pick b (Mark at) (Member at channel tag 0 len)) (sym y))

  after_by : {k : Within} → k ≡ pick t Within.Root (Within.Open channel group) → k ≡ within_after w tag len
  unfolding within_after
  after_by f = f ∙ ap (λ (b : Bool). pick b Within.Root (Within.Open channel group)) et ∙ ap (λ (k : Within). within_after k tag len) (sym e)

  pub after_mark : t ≡ true → Within.Root ≡ within_after w tag len
  after_mark y = after_by (ap (λ (b : Bool). pick b Within.Root (Within.Open channel group)) (sym y))

  pub after_member : t ≡ false → Within.Open channel group ≡ within_after w tag len
  after_member y = after_by (ap (λ (b : Bool). pick b Within.Root (Within.Open channel group)) (sym y))

pub marked_by_lem : (x : Link) {w : Within} {around : ℕ} → w ≡ stands_in x.head.cursor.at x.head.cursor.within → around ≡ cut_at w x.head.cursor.at x.core.around
    → link_with (core x.core.count around x.core.held x.core.stage) x.head x.frame ≡ marked_by x
marked_by_lem x ew ea =
    ap (λ (k : ℕ). link_with (core x.core.count k x.core.held x.core.stage) x.head x.frame) (ea ∙ ap (λ (k : Within). cut_at k x.head.cursor.at x.core.around) ew)

pub lasts_definite : (count left : ℕ) {w : Within} (channel end : ℕ) → w ≡ Within.Definite channel end → end - count ≡ lasts_in w count left
lasts_definite count left channel end e = ap (λ (k : Within). lasts_in k count left) (sym e)

module _ (count : ℕ) (f : Result (Option ItemHead) Fault) {w : Within} where
  pub seen_root : w ≡ Within.Root → f ≡ seen_in w count f
  unfolding seen_in
  seen_root e = ap (λ (k : Within). seen_in k count f) (sym e)

  pub seen_open : (channel group : ℕ) → w ≡ Within.Open channel group → f ≡ seen_in w count f
  unfolding seen_in
  seen_open channel group e = ap (λ (k : Within). seen_in k count f) (sym e)

  pub seen_definite : (channel end : ℕ) {r : Result (Option ItemHead) Fault} {n : ℕ} → w ≡ Within.Definite channel end → n ≡ end - count → r ≡ confined n f → r ≡ seen_in w count f
  unfolding seen_in
  seen_definite channel end e en er = er ∙ ap (λ (k : ℕ). confined k f) en ∙ ap (λ (k : Within). seen_in k count f) (sym e)

-- ---- a head in a definite group

module _ (left : ℕ) {f : Result (Option ItemHead) Fault} where
  pub confined-none : f ≡ (Ok None) → left ≡ 0 → Err PastEnd ≡ confined left f
  unfolding confined
  confined-none e z = rw (e, eq-eqb left 0 z) refl

  pub confined-more : f ≡ (Ok None) → (left ≡ 0 → ⊥) → (Ok None) ≡ confined left f
  unfolding confined
  confined-more e z = rw (e, ne_eqb left 0 z) refl

  pub confined_faulty : {fault : Fault} → f ≡ Err fault → Err fault ≡ confined left f
  unfolding confined
  confined_faulty e = rw e refl

  module _ {tag start len : ℕ} (e : f ≡ Ok (Some (ItemHead.Primitive tag start len))) where
    pub confined-past : left < len → Err PastEnd ≡ confined left f
    unfolding confined
    confined-past h = rw (e, lt-ltb left len h) refl

    pub confined-fits : len ≤ left → Ok (Some (ItemHead.Primitive tag start len)) ≡ confined left f
    unfolding confined
    confined-fits h = rw (e, le-ltb left len h) refl

  pub confined_definite : {channel start len : ℕ} → f ≡ Ok (Some (ItemHead.Definite channel start len)) → Ok (Some (ItemHead.Definite channel start len)) ≡ confined left f
  unfolding confined
  confined_definite e = rw e refl

  pub confined_open : {channel start : ℕ} → f ≡ Ok (Some (ItemHead.Open channel start)) → Ok (Some (ItemHead.Open channel start)) ≡ confined left f
  unfolding confined
  confined_open e = rw e refl

-- ---- the sizes in a head

abbrev SmallLength : Result (Option Length) Fault → Type 0
SmallLength (Ok (Some (Length.Known n octets))) = n < 2 ^ 32
SmallLength (Ok (Some (Length.Open octets))) = Unit {0}
SmallLength (Ok None) = Unit {0}
SmallLength (Err fault) = Unit {0}

length-small : (u : List ℕ) → Octets u → SmallLength (length_of u)
unfolding length_of number_of
length-small [] o = tt
length-small (b ∷ u) o =
    pick_cases SmallLength (ltb b 128) (λ t. omega (arith, ltb-true b 128 t))
    (λ _. pick_cases SmallLength (eqb (b - 128) 0) (λ _. tt)
    (λ _. pick_cases SmallLength (ltb 4 (b - 128)) (λ _. tt)
    (λ t. pick_cases SmallLength (ltb (length u) (b - 128)) (λ _. tt)
    (λ _. omega (arith, number_first false u (λ i. o (suc i)) (b - 128), cap (b - 128) 4 (ltb-false 4 (b - 128) t))))))

-- A form's length, where it has one.
abbrev ShortForm : Result (Option ItemHead) Fault → Type 0
ShortForm (Ok None) = Unit {0}
ShortForm (Err fault) = Unit {0}
ShortForm (Ok (Some (ItemHead.Primitive tag start len))) = len < 2 ^ 32
ShortForm (Ok (Some (ItemHead.Definite channel start len))) = len < 2 ^ 32
ShortForm (Ok (Some (ItemHead.Open channel start))) = Unit {0}

primitive_short : (tag : ℕ) (l : Result (Option Length) Fault) → SmallLength l → ShortForm (primitive_form tag l)
unfolding primitive_form
primitive_short tag (Ok (Some (Length.Known n octets))) h = h
primitive_short tag (Ok (Some (Length.Open octets))) h = tt
primitive_short tag (Ok None) h = tt
primitive_short tag (Err fault) h = tt

group_short : (channel k : ℕ) (l : Result (Option Length) Fault) → SmallLength l → ShortForm (group_length channel k l)
unfolding group_length
group_short channel k (Ok (Some (Length.Known n octets))) h = h
group_short channel k (Ok (Some (Length.Open octets))) h = tt
group_short channel k (Ok None) h = tt
group_short channel k (Err fault) h = tt

channel_short : (u : List ℕ) → Octets u → (c : Result (Option (ℕ × ℕ)) Fault) → ShortForm (group_form u c)
unfolding group_form
channel_short u o (Ok (Some (channel, k))) = group_short channel k (length_of (drop k u)) (length-small (drop k u) (drop-octets k u o))
channel_short u o (Ok None) = tt
channel_short u o (Err fault) = tt

form_short : (inside : Bool) (u : List ℕ) → Octets u → ShortForm (form_of inside u)
unfolding form_of
form_short inside [] o = tt
form_short inside (tag ∷ u) o =
    pick_cases ShortForm (unknown_context tag) (λ _. tt)
    (λ _. pick_cases ShortForm (both inside (root_only tag)) (λ _. tt)
    (λ _. pick_cases ShortForm (eqb tag 0x3F) (λ _. channel_short u (λ i. o (suc i)) (channel_of 4 0 0 u))
    (λ _. primitive_short tag (length_of u) (length-small u (λ i. o (suc i))))))

small_by : (n : ℕ) (f : Result (Option ItemHead) Fault) → (f ≡ (Ok None) → n < 10) → ShortForm f → SmallForm n f
small_by n (Ok None) w h = w refl
small_by n (Err fault) w h = tt
small_by n (Ok (Some (ItemHead.Primitive tag start len))) w h = h
small_by n (Ok (Some (ItemHead.Definite channel start len))) w h = h
small_by n (Ok (Some (ItemHead.Open channel start))) w h = tt

confined-small : (left n : ℕ) (f : Result (Option ItemHead) Fault) → SmallForm n f → SmallForm n (confined left f)
unfolding confined
confined-small left n (Ok None) h = pick_cases (SmallForm n) (eqb left 0) (λ _. tt) (λ _. h)
confined-small left n (Err fault) h = tt
confined-small left n (Ok (Some (ItemHead.Primitive tag start len))) h = pick_cases (SmallForm n) (ltb left len) (λ _. tt) (λ _. h)
confined-small left n (Ok (Some (ItemHead.Definite channel start len))) h = h
confined-small left n (Ok (Some (ItemHead.Open channel start))) h = tt

seen_small : (w : Within) (count n : ℕ) (f : Result (Option ItemHead) Fault) → SmallForm n f → SmallForm n (seen_in w count f)
unfolding seen_in
seen_small Within.Root count n f h = h
seen_small (Within.Definite channel end) count n f h = confined-small (end - count) n f h
seen_small (Within.Open channel group) count n f h = h

pub seen_by : (w : Within) (count : ℕ) (u : List ℕ) {inside : Bool} {f r : Result (Option ItemHead) Fault} → Octets u → inside ≡ is_inside w → f ≡ form_of inside u → r ≡ seen_in w count f → Seen w count u r
seen_by w count u o ei ef er =
    let e = er ∙ ap (seen_in w count) (ef ∙ ap (λ (b : Bool). form_of b u) ei) in
    let g = form_of (is_inside w) u in
    record { is = e; small = subst (SmallForm (length u)) (sym e) (seen_small w count (length u) g (small_by (length u) g (form_wants (is_inside w) u) (form_short (is_inside w) u o))) }

pub bounded : (x : Link) (n : ℕ) (f : Result (Option ItemHead) Fault) → x.core.count ≤ octets_limit → SmallForm n f → Bounded x n f
bounded x n (Ok None) c h = omega arith
bounded x n (Err fault) c h = tt
bounded x n (Ok (Some (ItemHead.Primitive tag start len))) c h = record { count = c; small = h }
bounded x n (Ok (Some (ItemHead.Definite channel start len))) c h = record { count = c; small = h }
bounded x n (Ok (Some (ItemHead.Open channel start))) c h = tt

-- ---- refusals that wait, and frames

-- With whatever octets and words a choice is that of what is chosen.
pick_link : (b : Bool) (y z : Link) (p t : List ℕ) → link_by (pick b y z) p t ≡ pick b (link_by y p t) (link_by z p t)
pick_link true y z p t = refl
pick_link false y z p t = refl

waiting-is : (left : ℕ) (r : Noted) (x : Link) (p q t : List ℕ) → link_by (waiting_by left r x) q t ≡ waiting left (refusal_of r) (link_by x p t)
unfolding waiting
waiting-is left r x p q t = pick_link (eqb left 0) (in_stage (Stage.Decided (Err r)) x) (in_stage (Stage.Waits left r) x) q t

waiting_notes : (left : ℕ) (r : Noted) (x : Link) → Stays x.core.count left x.core.count r (waiting_by left r x)
waiting_notes left r x = pick_cases (Stays x.core.count left x.core.count r) (eqb left 0) (λ t. (refl, omega arith, omega (arith, eqb-true left 0 t))) (λ _. (refl, omega arith, omega arith))

-- A refusal that is noted waits as it does itself.
pub waiting_noted : {x y : Link} (left : ℕ) (r : Refusal) {k : Noted} → k ≡ noted_of r → y ≡ waiting_by left k x → Becomes x y (waiting left r)
waiting_noted {x} {y} left r {k} ek ey =
    let is = ey ∙ ap (λ (n : Noted). waiting_by left n x) ek in
    record {
      known = subst Known (sym (ap (λ (z : Link). noted_in z.core.stage) is ∙ (waiting_notes left (noted_of r) x).0)) (known_of r);
      same = λ p q t. ap (λ (z : Link). link_by z q t) is ∙ waiting-is left (noted_of r) x p q t ∙ ap (λ (n : Refusal). waiting left n (link_by x p t)) (noted_back r);
    }

module _ {x y : Link} (left : ℕ) (r : Refusal) where
  pub waiting_now : y ≡ in_stage (Stage.Decided (Err (noted_of r))) x → left ≡ 0 → Becomes x y (waiting left r)
  waiting_now e z = waiting_noted left r refl (e ∙ none_left left (in_stage (Stage.Decided (Err (noted_of r))) x) (in_stage (Stage.Waits left (noted_of r)) x) z)

  pub waiting-on : y ≡ in_stage (Stage.Waits left (noted_of r)) x → (left ≡ 0 → ⊥) → Becomes x y (waiting left r)
  waiting-on e z = waiting_noted left r refl (e ∙ some_left left (in_stage (Stage.Decided (Err (noted_of r))) x) (in_stage (Stage.Waits left (noted_of r)) x) z)

pub condemned_by : {x y : Link} (w : Within) (left n : ℕ) (r : Refusal) → Becomes x y (waiting n r) → n ≡ lasts_in w x.core.count left → Becomes x y (condemned w left r)
unfolding condemned
condemned_by {x} w left n r b e = record { known = b.known; same = λ p q t. b.same p q t ∙ ap (λ (k : ℕ). waiting k r (link_by x p t)) e }

waved-phase : (left : ℕ) → phase_of (waved_stage left) [] ≡ waved left L.first_coming
unfolding waved
waved-phase zero = refl
waved-phase (suc left) = ap (λ (b : Bool). phase_of (pick b Stage.Head (Stage.Waveform (suc left) 0 0 0)) []) (ne_eqb (suc left) 0 (λ z. omega arith))

module _ {x : Link} (left : ℕ) {h : Head} (v : Waveform) where
  pub framed_long : {y z : Link} → ltb octets_limit (x.core.count + left) ≡ true → z ≡ in_stand h x → Becomes z y (waiting left (refusal LongFile 0)) → Moves x h (stopped_at left (Ok (Some v))) y
  unfolding stopped_at
  framed_long t e b =
      record {
        known = b.known;
        same = λ p q u w. b.same p q w ∙ ap (λ (k : Link). waiting left (refusal LongFile 0) (link_by k p w)) e
            ∙ sym (ap (λ (c : Bool). pick c (waiting left (refusal LongFile 0) (link_by (in_stand h x) p w)) (L.link x.core.count (stand_of h w) x.core.around v (waved left L.first_coming))) t);
      }

  pub framed_told : {s : Stage} → ltb octets_limit (x.core.count + left) ≡ false → s ≡ waved_stage left → Moves x h (stopped_at left (Ok (Some v))) (link_with (core x.core.count x.core.around 0 s) h v)
  unfolding stopped_at
  framed_told t e =
      record {
        known = subst (λ (k : Stage). Known (noted_in k)) (sym e) (pick_cases (λ (k : Stage). Known (noted_in k)) (eqb left 0) (λ _. tt) (λ _. tt));
        same = λ p q u w. ap (λ (k : L.Phase). L.link x.core.count (stand_of h w) x.core.around v k) (ap (λ (k : Stage). phase_of k []) e ∙ waved-phase left)
            ∙ sym (ap (λ (c : Bool). pick c (waiting left (refusal LongFile 0) (link_by (in_stand h x) p w)) (L.link x.core.count (stand_of h w) x.core.around v (waved left L.first_coming))) t);
      }

-- ---- what became of an item

pub goes_on : {x : Link} {h : Head} {w : Within} {around : ℕ} → w ≡ stands_in h.cursor.at h.cursor.within → around ≡ group_at w x.core.around
    → Moves x h (λ y. turned_by 0 (on y)) (link_with (core x.core.count around 0 Stage.Head) h x.frame)
unfolding turned_by
goes_on {x} {h} ew ea =
    record { known = tt; same = λ p q u v. ap (λ (k : ℕ). L.link x.core.count (stand_of h v) k x.frame (L.head [])) (ea ∙ ap (λ (k : Within). group_at k x.core.around) ew) }

module _ {x : Link} (left : ℕ) {h : Head} {w : Result (Option Waveform) Refusal} {r : Link} where
  pub turned_on : w ≡ Ok None → Moves x h (λ y. turned_by 0 (on y)) r → Moves x h (λ y. turned_by left (turn_by w y)) r
  unfolding turned_by
  turned_on e m = record { known = m.known; same = λ p q u v. m.same p q u v ∙ ap (λ (k : Result (Option Waveform) Refusal). turned_by left (turn_by k (stand_of h v)) (link_by x p u)) (sym e) }

  pub turned-frame : (f : Waveform) → w ≡ Ok (Some f) → Moves x h (stopped_at left (Ok (Some f))) r → Moves x h (λ y. turned_by left (turn_by w y)) r
  unfolding turned_by
  turned-frame f e m =
      record { known = m.known; same = λ p q u v. m.same p q u v ∙ ap (λ (k : Result (Option Waveform) Refusal). turned_by left (turn_by k (stand_of h v)) (link_by x p u)) (sym e) }

  pub turned-refused : {z : Link} (n : Refusal) (a : Within) → w ≡ Err n → z ≡ in_stand h x → a ≡ stands_in x.head.cursor.at x.head.cursor.within → Becomes z r (condemned a left n)
      → Moves x h (λ y. turned_by left (turn_by w y)) r
  unfolding turned_by stopped_at
  turned-refused n a e ez ea b =
      record {
        known = b.known;
        same = λ p q u v. b.same p q v ∙ (λ i. condemned (ea i) left n (link_by (ez i) p v))
            ∙ ap (λ (k : Result (Option Waveform) Refusal). turned_by left (turn_by k (stand_of h v)) (link_by x p u)) (sym e);
      }

pub effected_turns : {x m r : Link} {u v : List ℕ} (left : ℕ) (c : Cursor) (e : Result Effect Fault) {k : Taken} → m ≡ marked_by x → T.Takes u m.head c m.head.cursor.at e k v
    → Moves m k.head (λ y. turned_by left (turn_by k.went y)) r → Turns x u (L.effected left c e) r v
effected_turns {x} {m} {u = u} {v} left c e em t b =
    record {
      known = b.known;
      same = λ p q. b.same p q u v ∙ ap (λ (y : Turn). turned_by left y (link_by m p u)) t.same
          ∙ (λ i. turned_by left (effect_turn (stand_of (em i).head u) c (em i).head.cursor.at e) (link_by (em i) p u));
      long = t.long;
    }

-- ---- items and their heads

pub done_turns : {x r : Link} {u v : List ℕ} (s : List ℕ) (tag : ℕ) {w after : Within} {i : Item} {e : Result Effect Fault} → w ≡ stands_in x.head.cursor.at x.head.cursor.within → i ≡ item_at w x.head.cursor.at tag (length s)
    → e ≡ effect_of s x.head.standing i → after ≡ within_after w tag (length s) → Turns x u (L.effected 0 (cursor x.core.count after) e) r v → Turns x u (L.done_item tag s) r v
done_turns {x} {u = u} s tag ew ei ee ea t =
    let place = x.head.cursor.at in
    let effect = ee ∙ ap (effect_of s x.head.standing) (ei ∙ ap (λ (k : Within). item_at k place tag (length s)) ew) in
    let after = ea ∙ ap (λ (k : Within). within_after k tag (length s)) ew in
    record { known = t.known; same = λ p q. t.same p q ∙ (λ j. L.effected 0 (cursor x.core.count (after j)) (effect j) (link_by x p u)); long = t.long }

module _ {x : Link} {u : List ℕ} (tag left n : ℕ) (p : List ℕ) where
  pub valued_done : {r : Link} {v : List ℕ} (s : List ℕ) → left ≡ 0 → s ≡ take n p → Turns x u (L.done_item tag s) r v → TurnsOn x u (L.valued tag left (take n p)) r p v
  unfolding L.valued
  valued_done s z e t = record { known = t.known; same = λ q. t.same q p ∙ ap (λ (k : List ℕ). L.done_item tag k (link_by x q u)) e ∙ sym (ap (λ (b : Bool). pick b (L.done_item tag (take n p) (link_by x q u)) (L.in_phase (L.value tag left (take n p)) (link_by x q u))) (eq-eqb left 0 z)); long = t.long }

  pub valued-on : (left ≡ 0 → ⊥) → n ≤ kept_limit → TurnsOn x u (L.valued tag left (take n p)) (link_with (core x.core.count x.core.around n (Stage.Value tag left)) x.head x.frame) p u
  unfolding L.valued
  valued-on z h =
      let k : min n kept_limit ≡ n = omega arith in
      record {
        known = tt;
        same = λ q. ap (λ (m : ℕ). L.in_phase (L.value tag left (take m p)) (link_by x q u)) k
            ∙ sym (ap (λ (b : Bool). pick b (L.done_item tag (take n p) (link_by x q u)) (L.in_phase (L.value tag left (take n p)) (link_by x q u))) (ne_eqb left 0 z));
        long = refl;
      }

module _ {x : Link} {u : List ℕ} (tag len : ℕ) {p : List ℕ} {r : Link} {v : List ℕ} where
  pub begins_frame : tag ≡ 0x1E → Turns x u (L.effected len (cursor (x.core.count + len) Within.Root) (Ok (Effect.Frame x.core.count len))) r v → TurnsOn x u (L.primitive_begins tag len) r p v
  unfolding L.primitive_begins
  begins_frame e t =
      record {
        known = t.known;
        same = λ q. t.same q p
            ∙ sym (ap (λ (b : Bool). pick b (L.effected len (cursor (x.core.count + len) Within.Root) (Ok (Effect.Frame x.core.count len)) (link_by x q u)) (L.valued tag len [] (link_by x q u))) (eq-eqb tag 0x1E e));
        long = t.long;
      }

  pub begins_value : (tag ≡ 0x1E → ⊥) → TurnsOn x u (L.valued tag len []) r p v → TurnsOn x u (L.primitive_begins tag len) r p v
  unfolding L.primitive_begins
  begins_value e t =
      record {
        known = t.known;
        same = λ q. t.same q
            ∙ sym (ap (λ (b : Bool). pick b (L.effected len (cursor (x.core.count + len) Within.Root) (Ok (Effect.Frame x.core.count len)) (link_by x q u)) (L.valued tag len [] (link_by x q u))) (ne_eqb tag 0x1E e));
        long = t.long;
      }

pub group_turns : {x r : Link} {u v : List ℕ} (s : List ℕ) (left channel : ℕ) (w : Within) {e : Result Effect Fault} → e ≡ effect_of s x.head.standing (Item.Group x.head.cursor.at channel)
    → Turns x u (L.effected left (cursor x.core.count w) e) r v → Turns x u (L.group_begins left channel w) r v
unfolding effect_of
group_turns {x} {u = u} s left channel w e t =
    record { known = t.known; same = λ p q. t.same p q ∙ ap (λ (k : Result Effect Fault). L.effected left (cursor x.core.count w) k (link_by x p u)) e; long = t.long }

-- ---- a head

module _ {x : Link} {u : List ℕ} (p : List ℕ) (n : ℕ) {f : Result (Option ItemHead) Fault} where
  -- What a head says, by what it is known to say.
  headed_as : (g : Result (Option ItemHead) Fault) → f ≡ g → {r : Link} {v : List ℕ} → TurnsOn x u (L.headed (take n p) g) r p v → TurnsOn x u (L.headed (take n p) f) r p v
  headed_as g e {r} {v} t = subst (λ (k : Result (Option ItemHead) Fault). TurnsOn x u (L.headed (take n p) k) r p v) (sym e) t

  pub headed-more : f ≡ (Ok None) → n ≤ kept_limit → TurnsOn x u (L.headed (take n p) f) (link_with (core x.core.count x.core.around n Stage.Head) x.head x.frame) p u
  unfolding L.headed
  headed-more e h =
      let k : min n kept_limit ≡ n = omega arith in
      headed_as (Ok None) e (record { known = tt; same = λ q. ap (λ (m : ℕ). L.in_phase (L.head (take m p)) (link_by x q u)) k; long = refl })

  pub headed_faulty : (fault : Fault) {m r : Link} {w : Within} → f ≡ Err fault → m ≡ marked_by x → w ≡ stands_in x.head.cursor.at x.head.cursor.within
      → Becomes m r (condemned w 0 (refusal fault x.head.cursor.at)) → TurnsOn x u (L.headed (take n p) f) r p u
  unfolding L.headed
  headed_faulty fault e em ew b =
      headed_as (Err fault) e
      (record { known = b.known; same = λ q. b.same q p u ∙ (λ i. condemned (ew i) 0 (refusal fault x.head.cursor.at) (link_by (em i) q u)); long = refl })

  module _ {r : Link} {v : List ℕ} where
    pub headed_primitive : (tag start len : ℕ) → f ≡ Ok (Some (ItemHead.Primitive tag start len)) → TurnsOn x u (L.primitive_begins tag len) r p v → TurnsOn x u (L.headed (take n p) f) r p v
    unfolding L.headed
    headed_primitive tag start len e t = headed_as (Ok (Some (ItemHead.Primitive tag start len))) e (record { known = t.known; same = t.same; long = t.long })

    pub headed_definite : (channel start len : ℕ) → f ≡ Ok (Some (ItemHead.Definite channel start len)) → Turns x u (L.group_begins len channel (Within.Definite channel (x.core.count + len))) r v → TurnsOn x u (L.headed (take n p) f) r p v
    unfolding L.headed
    headed_definite channel start len e t = headed_as (Ok (Some (ItemHead.Definite channel start len))) e (record { known = t.known; same = λ q. t.same q p; long = t.long })

    pub headed_open : (channel start : ℕ) → f ≡ Ok (Some (ItemHead.Open channel start)) → Turns x u (L.group_begins 0 channel (Within.Open channel x.head.cursor.at)) r v → TurnsOn x u (L.headed (take n p) f) r p v
    unfolding L.headed
    headed_open channel start e t = headed_as (Ok (Some (ItemHead.Open channel start))) e (record { known = t.known; same = λ q. t.same q p; long = t.long })

-- ---- one octet more

-- The first octets of the first octets.
taken_least : (m : ℕ) (l : List ℕ) → take (min m kept_limit) l ≡ take kept_limit (take m l)
taken_least m l = by (dec_lt m kept_limit)
  where
    by : Dec (m < kept_limit) → take (min m kept_limit) l ≡ take kept_limit (take m l)
    by (yes h) =
        let e : min m kept_limit ≡ m = omega arith in
        ap (λ (k : ℕ). take k l) e ∙ sym (take_all kept_limit (take m l) (rw length-take (omega arith)))
    by (no h) =
        let e : min m kept_limit ≡ kept_limit = omega (arith, h) in
        ap (λ (k : ℕ). take k l) e ∙ sym (take-take kept_limit m l (omega (arith, h)))

-- The octets that are kept, and one more behind them.
module _ (p : List ℕ) (n b : ℕ) (h : n < length p) where
  pub one_more : take (n + 1) (set p n b) ≡ take n p ++ (b ∷ [])
  one_more = ap (λ (k : ℕ). take k (set p n b)) (add-one n) ∙ take-suc-set p n b h

  one_kept : take (min (n + 1) kept_limit) (set p n b) ≡ take kept_limit (take n p ++ (b ∷ []))
  one_kept = taken_least (n + 1) (set p n b) ∙ ap (take kept_limit) one_more

module _ (x : Link) (u p : List ℕ) (b : ℕ) {n : ℕ} (en : n ≡ min x.core.held kept_limit) (long : kept_limit < length p) where
  here : n < length p
  here = omega arith

  kept-is : take n p ≡ kept_of x p
  kept-is = ap (λ (k : ℕ). take k p) en

  pub head_takes : {y link : Link} {v part : List ℕ} {w : Within} {f : Result (Option ItemHead) Fault} → y ≡ untold_by x → w ≡ stands_in y.head.cursor.at y.head.cursor.within → part ≡ take (n + 1) (set p n b) → Seen w y.core.count part f
      → TurnsOn y u (L.headed (take (n + 1) (set p n b)) f) link (set p n b) v → Takes x p u b (L.head (kept_of x p)) Stage.Head (record { link = link; octets = set p n b }) v
  unfolding L.taken_in
  head_takes {y} {part = part} {w} ey ew ep s t =
      let now = one_more p n b here ∙ ap (λ (k : List ℕ). k ++ (b ∷ [])) kept-is in
      let around = ew ∙ (λ i. stands_in (ey i).head.cursor.at (ey i).head.cursor.within) in
      let form = s.is ∙ (λ i. seen_in (around i) (ey i).core.count (form_of (is_inside (around i)) ((ep ∙ now) i))) in
      record { notes = t.known; same = t.same p ∙ (λ i. L.headed (now i) (form i) (link_by (ey i) p u)); long = t.long }

  pub value_takes : {link : Link} {v : List ℕ} (tag left : ℕ) {k m : ℕ} → k ≡ left - 1 → m ≡ min (n + 1) kept_limit → TurnsOn x u (L.valued tag k (take m (set p n b))) link (set p n b) v
      → Takes x p u b (L.value tag left (kept_of x p)) (Stage.Value tag left) (record { link = link; octets = set p n b }) v
  unfolding L.taken_in
  value_takes tag left ek em t =
      let kept = ap (λ (k : ℕ). take k (set p n b)) em ∙ one_kept p n b here ∙ ap (λ (k : List ℕ). take kept_limit (k ++ (b ∷ []))) kept-is in
      record { notes = t.known; same = t.same p ∙ (λ i. L.valued tag (ek i) (kept i) (link_by x p u)); long = t.long }

-- ---- an octet of a waveform

module _ (block channels : ℕ) (at : Spot) where
  abbrev next_spot : Bool → Bool → Coming
  next_spot i c = pick i (coming_at (record { sequence = at.sequence; channel = at.channel; index = at.index + 1 }) []) (pick c (coming_at (record { sequence = at.sequence; channel = at.channel + 1; index = 0 }) []) (coming_at (record { sequence = at.sequence + 1; channel = 0; index = 0 }) []))

  pub next-index : at.index + 1 < block → ComesNext block channels at (record { sequence = at.sequence; channel = at.channel; index = at.index + 1 })
  unfolding L.next_coming
  next-index h u = sym (ap (λ (b : Bool). next_spot b (ltb (at.channel + 1) channels)) (lt-ltb (at.index + 1) block h))

  module _ (h : block ≤ at.index + 1) where
    pub next-channel : at.channel + 1 < channels → ComesNext block channels at (record { sequence = at.sequence; channel = at.channel + 1; index = 0 })
    unfolding L.next_coming
    next-channel k u = sym (λ i. next_spot (le-ltb (at.index + 1) block h i) (lt-ltb (at.channel + 1) channels k i))

    pub next-sequence : channels ≤ at.channel + 1 → ComesNext block channels at (record { sequence = at.sequence + 1; channel = 0; index = 0 })
    unfolding L.next_coming
    next-sequence k u = sym (λ i. next_spot (le-ltb (at.index + 1) block h i) (le-ltb (at.channel + 1) channels k i))

pub sample-phase : (x : Link) (left : ℕ) (at : Spot) (held : ℕ) (p q t : List ℕ) → link_by (at_sample left at held x) p t ≡ L.in_phase (waved left (coming_at at (take (min held kept_limit) p))) (link_by x q t)
unfolding waved
sample-phase x zero at held p q t = refl
sample-phase x (suc left) at held p q t =
    ap (λ (b : Bool). link_by (pick b (in_stage Stage.Head x) (link_with (core x.core.count x.core.around held (Stage.Waveform (suc left) at.sequence at.channel at.index)) x.head x.frame)) p t) (ne_eqb (suc left) 0 (λ z. omega arith))

module _ (x : Link) (u p : List ℕ) (b left : ℕ) (at : Spot) {n rest : ℕ} (en : n ≡ min x.core.held kept_limit) (long : kept_limit < length p) (er : rest ≡ left - 1) where
  abbrev sample : Coming
  sample = coming_at at (kept_of x p)

  abbrev channel_at : Settings
  channel_at = (get_or (records_in u) at.channel zero_dated).settings

  abbrev comes : Bool → Bool → Coming
  comes s w = pick s (pick w (coming_at at (kept_of x p ++ (b ∷ []))) (L.next_coming channel_at.block x.frame.channels sample)) sample

  abbrev wide : Bool
  wide = ltb (length (kept_of x p ++ (b ∷ []))) (width_in channel_at)

  many : length (kept_of x p ++ (b ∷ [])) ≡ n + 1
  many = length-append (kept_of x p) (b ∷ []) ∙ (let e = length-take (min x.core.held kept_limit) p in omega (arith, e))

  -- The sample at hand afterwards, by the two tests.
  waves_by : {link : Link} {o : List ℕ} (to : Spot) (k : ℕ) (s w : Bool) → ltb at.sequence x.frame.sequences ≡ s → wide ≡ w → link ≡ at_sample rest to k x → coming_at to (take (min k kept_limit) o) ≡ comes s w
      → Takes x p u b (L.waveform left sample) (Stage.Waveform left at.sequence at.channel at.index) (record { link = link; octets = o }) u
  unfolding L.taken_in L.sample_on
  waves_by {o = o} to k s w es ew el ec =
      record {
        notes = subst (λ (y : Link). Known (noted_in y.core.stage)) (sym el) (pick_cases (λ (y : Link). Known (noted_in y.core.stage)) (eqb rest 0) (λ _. tt) (λ _. tt));
        same = ap (λ (y : Link). link_by y o u) el ∙ sample-phase x rest to k o p u
            ∙ (λ i. L.in_phase (waved (er i) (ec i)) (link_by x p u))
            ∙ (λ i. L.in_phase (waved (left - 1) (comes (sym es i) (sym ew i))) (link_by x p u));
        long = refl;
      }

  pub surplus_takes : {link : Link} → link ≡ at_sample rest at n x → x.frame.sequences ≤ at.sequence → Takes x p u b (L.waveform left sample) (Stage.Waveform left at.sequence at.channel at.index) (record { link = link; octets = p }) u
  surplus_takes el h =
      let k : min n kept_limit ≡ min x.core.held kept_limit = omega arith in
      waves_by at n false wide (le-ltb at.sequence x.frame.sequences h) refl el (ap (λ (m : ℕ). coming_at at (take m p)) k)

  module _ (few : at.sequence < x.frame.sequences) {c : Settings} (ec : c ≡ channel_at) where
    pub part_takes : {link : Link} → link ≡ at_sample rest at (n + 1) x → n + 1 < width_in c → Takes x p u b (L.waveform left sample) (Stage.Waveform left at.sequence at.channel at.index) (record { link = link; octets = set p n b }) u
    part_takes el h =
        let width = width_le c.datatype in
        let k : min (n + 1) kept_limit ≡ n + 1 = omega (arith, width) in
        let now = ap (λ (m : ℕ). take m (set p n b)) k ∙ one_more p n b (omega arith) ∙ ap (λ (m : ℕ). take m p ++ (b ∷ [])) en in
        waves_by at (n + 1) true true (lt-ltb at.sequence x.frame.sequences few) (lt-ltb (length (kept_of x p ++ (b ∷ []))) (width_in channel_at) (subst (λ (y : Settings). length (kept_of x p ++ (b ∷ [])) < width_in y) ec (omega (arith, many)))) el (ap (coming_at at) now)

    pub whole_takes : {link : Link} {to : Spot} → link ≡ at_sample rest to 0 x → width_in c ≤ n + 1 → ComesNext c.block x.frame.channels at to → Takes x p u b (L.waveform left sample) (Stage.Waveform left at.sequence at.channel at.index) (record { link = link; octets = set p n b }) u
    whole_takes {to = to} el h next =
        waves_by to 0 true false (lt-ltb at.sequence x.frame.sequences few) (le-ltb (length (kept_of x p ++ (b ∷ []))) (width_in channel_at) (subst (λ (y : Settings). width_in y ≤ length (kept_of x p ++ (b ∷ []))) ec (omega (arith, many)))) el
        (next (kept_of x p) ∙ ap (λ (y : Settings). L.next_coming y.block x.frame.channels sample) ec)

-- Within the limit the count goes on.
pub further_near : (x : Link) (m held : ℕ) (s : Stage) → x.core.count + m ≤ octets_limit → further_by m held s x ≡ link_with (core (x.core.count + m) x.core.around held s) x.head x.frame
further_near x m held s h = ap (λ (k : ℕ). link_with (core k x.core.around held s) x.head x.frame) (mod-eq_of_lt (omega arith))

-- ---- all phases

module _ (x : Link) (u p : List ℕ) (b : ℕ) {s : Stage} (es : x.core.stage ≡ s) where
  -- By the stage that it is in.
  pub takes_in : {r : Arrived} {v : List ℕ} → Takes x p u b (phase_of s (kept_of x p)) s r v → Takes x p u b (phase_of x.core.stage (kept_of x p)) x.core.stage r v
  takes_in {r} {v} t = subst (λ (k : Stage). Takes x p u b (phase_of k (kept_of x p)) k r v) (sym es) t

pub waits_takes : {x link : Link} (u p : List ℕ) (b left : ℕ) (r : Noted) {k : ℕ} → k ≡ left - 1 → link ≡ waiting_by k r x → Takes x p u b (L.waits left (refusal_of r)) (Stage.Waits left r) (record { link = link; octets = p }) u
unfolding L.taken_in
waits_takes {x} {link} u p b left r {k} e w =
    record {
      notes = inl (subst (λ (m : ℕ). Stays x.core.count m x.core.count r link) e (subst (Stays x.core.count k x.core.count r) (sym w) (waiting_notes k r x)));
      same = ap (λ (y : Link). link_by y p u) w ∙ waiting-is k r x p p u ∙ ap (λ (m : ℕ). waiting m (refusal_of r) (link_by x p u)) e;
      long = refl;
    }

pub decided_takes : (x : Link) (u p : List ℕ) (b : ℕ) (a : Result ℕ Noted) → x.core.stage ≡ Stage.Decided a → Takes x p u b (L.decided (answer_by a)) (Stage.Decided a) (record { link = x; octets = p }) u
unfolding L.taken_in
decided_takes x u p b a e = record { notes = (e, omega arith, omega arith); same = refl; long = refl }

module _ (x : Link) (u p : List ℕ) (b : ℕ) {d : Bool} (ed : DecidedIn x.core.stage d) where
  abbrev steps_by : Bool → Bool → L.Link
  steps_by t h =
      pick t (link_by x p u) (pick h (L.refused_in (refusal LongFile 0) (link_by x p u)) (L.taken_in b (phase_of x.core.stage (kept_of x p)) (link_by (counted_by x) p u)))

  steps_by_lem : {r : Arrived} {v : List ℕ} (t h : Bool) → d ≡ t → leb octets_limit x.core.count ≡ h → link_by r.link r.octets v ≡ steps_by t h → length v ≡ length u → Notes x 1 r.link → Steps x p u b r v
  unfolding L.stepped
  steps_by_lem t h et eh e l k = record { notes = k; same = e ∙ (λ i. steps_by ((sym et ∙ ed (kept_of x p)) i) (sym eh i)); long = l }

  pub steps-decided : d ≡ true → Steps x p u b (record { link = x; octets = p }) u
  steps-decided t = steps_by_lem true (leb octets_limit x.core.count) t refl refl refl (notes_none x (x.core.count + 1) (omega arith))

  pub steps-past : {link : Link} {k : Noted} → d ≡ false → octets_limit ≤ x.core.count → k ≡ noted_of (refusal LongFile 0) → link ≡ in_stage (Stage.Decided (Err k)) x → Steps x p u b (record { link = link; octets = p }) u
  steps-past {link} t h k e =
      let same = ap (λ (y : Link). link_by y p u) e ∙ ap (λ (r : Refusal). L.refused_in r (link_by x p u)) (ap refusal_of k ∙ noted_back (refusal LongFile 0)) in
      let past = ap (λ (y : Link). noted_in y.core.stage) e ∙ ap Some k in
      steps_by_lem false true t (le-leb octets_limit x.core.count h) same refl (notes_limit x.core.stage link (x.core.count + 1) (x.core.count + 1) (sym (ed []) ∙ t) (omega arith) (omega arith) past)

  pub steps-taken : {y : Link} {r : Arrived} {v : List ℕ} → d ≡ false → x.core.count < octets_limit → y ≡ counted_by x → Takes y p u b (phase_of y.core.stage (kept_of y p)) y.core.stage r v → Steps x p u b r v
  steps-taken {r = r} {v} t h e k =
      let w = subst (λ (z : Link). Takes z p u b (phase_of z.core.stage (kept_of z p)) z.core.stage r v) e k in
      steps_by_lem false false t (lt-leb octets_limit x.core.count h) w.same w.long w.notes
