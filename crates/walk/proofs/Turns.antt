-- Laws of one walk.
--     advance_on, -stops    one item further; where the walk stops
--     Turning, turning-..   an item met and what it asks for: what the walk does with it
--     Measured, measured-..   the same of a waveform
--     below-frame           the octets below the channels of a frame
--     past_then, past_put   what is past the last record
--     answered              the answer of an advance
-- Assumes nothing.
use Rattle.heads.specs.declared.Fault.{Fault}
use Rattle.effects.specs.declared.Effect.{Effect}
use Rattle.std.specs.Prelude.{Result, Ok, Err, Option, Some, None}
use Rattle.std.proofs.Common.{◌≡◌, ℕ, zero, suc, ◌+◌, ◌-◌, ◌%◌, ◌^◌, ◌<◌, ◌≤◌, min, Bool, not, eqb, ltb, leb, List, [], ◌∷◌, length, get_or, take, set, sym, refl, ap, ◌∙◌, subst, inr, arith, length-take, take-take, leb-false}
use types.Run.{OneOf, miss}
use denote.Enum.Declared.{tag_of}
use Rattle.octets.proofs.Pick.{pick_cases}
use Rattle.heads.specs.declared.Refusal.{Refusal}
use Rattle.items.specs.declared.Item.{Item}
use Rattle.items.specs.declared.Cursor.{Cursor}
use Rattle.items.specs.Walk.{next_of, refusal}
use Rattle.items.proofs.Walks.{next_found}
use Rattle.settings.specs.declared.Settings.{Settings}
use Rattle.settings.specs.declared.Change.{Change}
use Rattle.settings.specs.Settings.{channel_limit, block_limit, applied}
use Rattle.dated.specs.declared.Dated.{Dated}
use Rattle.dated.specs.declared.Dates.{Dates}
use Rattle.dated.specs.Dated.{noted, zero_dated, root_defined, all_cleared, settled_at, settled_in, refreshed, held}
use Rattle.dated.proofs.Tables.{table_long}
use Rattle.dated.proofs.Refreshed.{held-refreshed}
use Rattle.layout.specs.declared.Layout.{Layout}
use Rattle.layout.specs.Frame.{sequence_octets, octets_below}
use Rattle.layout.specs.Measure.{layout_of}
use Rattle.standing.specs.declared.Standing.{Standing}
use Rattle.standing.specs.Standing.{octets_limit, frames_limit}
use Rattle.effects.specs.Effects.{effect_of, standing_after}
use Rattle.effects.specs.contracts.Effect.{the_type}
use Rattle.framing.specs.Framing.{channels_of, pointer_fits, framed_as}
use Rattle.framing.specs.AnyNumbers.{framed_by}
use Rattle.verdict.specs.Verdict.{place_at}
use Rattle.words.specs.Words.{records_in, held_in, below_in, Holding}
use Rattle.records.specs.Records.{PastKept, Refreshed}
use Rattle.words.proofs.Laws.{records-long}
use Rattle.walk.specs.declared.Waveform.{Waveform}
use Rattle.walk.specs.declared.Head.{Head}
use Rattle.walk.specs.declared.Moved.{Moved}
use Rattle.walk.specs.Advance.{Stand, stand, stands_for, Stop, stop, Turn, on, stops, behind, channels_at, records_at, refreshed_at, waveform_by, framed_turn, goes_on, effect_turn, next_turn, turn_of, after_turn, advance_in, advance_of, stand_of, moved_to, BelowKept, Advances}

-- ---- one item further

-- A turn goes on behind a place, inside the file.
abbrev pub Later : ℕ → ℕ → Turn → Type 0
Later long at (on y) = (at < y.cursor.at) × (y.cursor.at ≤ long)
Later long at (stops z) = Unit {0}

module _ (long at : ℕ) (x : Stand) (c : Cursor) (place : ℕ) (l : at < c.at) (h : c.at ≤ long) where
  framed_later : (start len : ℕ) (f : Result (ℕ × Standing) Fault) → Later long at (framed_turn x c place start len f)
  unfolding framed_turn
  framed_later start len (Ok (n, st)) = tt
  framed_later start len (Err fault) = tt

  effect_later : (e : Result Effect Fault) → Later long at (effect_turn x c place e)
  unfolding effect_turn
  effect_later (Ok Effect.Pass) = (l, h)
  effect_later (Ok (Effect.Order little)) = (l, h)
  effect_later (Ok (Effect.Count n)) = (l, h)
  effect_later (Ok (Effect.Sequences n)) = (l, h)
  effect_later (Ok (Effect.Start z)) = (l, h)
  effect_later (Ok (Effect.All d)) = (l, h)
  effect_later (Ok (Effect.One channel d)) = (l, h)
  effect_later (Ok (Effect.Frame start len)) = framed_later start len _
  effect_later (Err fault) = tt

next_turn_later : (s : List ℕ) (x : Stand) (n : Result (Option (Item × Cursor)) Refusal) → next_of s x.cursor ≡ n → Later (length s) x.cursor.at (next_turn s x n)
unfolding next_turn
next_turn_later s x (Ok (Some (i, d))) e =
    let p = next_found s x.cursor refl e in
    effect_later (length s) x.cursor.at x d (place_at i) p.later p.inside (effect_of s x.standing i)
next_turn_later s x (Ok None) e = tt
next_turn_later s x (Err r) e = tt

pub turn_later : (s : List ℕ) (x : Stand) → Later (length s) x.cursor.at (turn_of s x)
unfolding turn_of
turn_later s x = next_turn_later s x (next_of s x.cursor) refl

-- More turns than there are octets left change nothing.
advance_turns : (j k : ℕ) (s : List ℕ) (x : Stand) → length s - x.cursor.at < j → length s - x.cursor.at < k → advance_in j s x ≡ advance_in k s x
unfolding advance_in after_turn
advance_turns zero k s x h l = let z : ⊥ = omega arith in absurd z
advance_turns (suc j) zero s x h l = let z : ⊥ = omega arith in absurd z
advance_turns (suc j) (suc k) s x h l = by (turn_of s x) (turn_later s x) (λ y p q. advance_turns j k s y p q)
  where
    by : (t : Turn) → Later (length s) x.cursor.at t
        → ((y : Stand) → length s - y.cursor.at < j → length s - y.cursor.at < k → advance_in j s y ≡ advance_in k s y)
        → after_turn (advance_in j s) t ≡ after_turn (advance_in k s) t
    by (on y) p ih = ih y (omega arith) (omega arith)
    by (stops z) p ih = refl

module _ (s : List ℕ) (x : Stand) where
  pub advance_on : (y : Stand) → turn_of s x ≡ on y → advance_of s x ≡ advance_of s y
  unfolding advance_of advance_in after_turn
  advance_on y e =
      let p = subst (Later (length s) x.cursor.at) e (turn_later s x) in
      ap (after_turn (advance_in (length s - x.cursor.at) s)) e
      ∙ advance_turns (length s - x.cursor.at) (suc (length s - y.cursor.at)) s y (omega arith) (omega arith)

  pub advance_stops : (z : Stop) → turn_of s x ≡ stops z → advance_of s x ≡ z
  unfolding advance_of advance_in after_turn
  advance_stops z e = ap (after_turn (advance_in (length s - x.cursor.at) s)) e

  -- The end, and a fault of form.
  pub advance_end : {n : Result (Option (Item × Cursor)) Refusal} → n ≡ next_of s x.cursor → n ≡ Ok None → stop (Ok None) x ≡ advance_of s x
  unfolding turn_of next_turn
  advance_end a b = sym (advance_stops (stop (Ok None) x) (ap (next_turn s x) (sym a ∙ b)))

  pub advance_fault : {n : Result (Option (Item × Cursor)) Refusal} (r : Refusal) → n ≡ next_of s x.cursor → n ≡ Err r → stop (Err r) x ≡ advance_of s x
  unfolding turn_of next_turn
  advance_fault r a b = sym (advance_stops (stop (Err r) x) (ap (next_turn s x) (sym a ∙ b)))

-- ---- what an item does

-- An item is met, behind which the cursor d stands, and asks for e.
pub record Turning (s : List ℕ) (x : Stand) (i : Item) (d : Cursor) (e : Result Effect Fault) : Type 0 where
  pub found : next_of s x.cursor ≡ Ok (Some (i, d))
  pub asks : e ≡ effect_of s x.standing i

-- The effects that set nothing but what stands.
abbrev pub plain_keys : List ℕ
plain_keys = 0 ∷ 1 ∷ 3 ∷ 4 ∷ []

pub plain_goes : (x : Stand) (c : Cursor) (place : ℕ) (e : Effect) → OneOf plain_keys (tag_of the_type e) → effect_turn x c place (Ok e) ≡ goes_on x c (Ok e) x.dates x.records
unfolding effect_turn
plain_goes x c place Effect.Pass h = refl
plain_goes x c place (Effect.Order little) h = refl
plain_goes x c place (Effect.Count n) h = absurd (miss plain_keys 2 tt h)
plain_goes x c place (Effect.Sequences n) h = refl
plain_goes x c place (Effect.Start z) h = refl
plain_goes x c place (Effect.All ch) h = absurd (miss plain_keys 5 tt h)
plain_goes x c place (Effect.One channel ch) h = absurd (miss plain_keys 6 tt h)
plain_goes x c place (Effect.Frame start len) h = absurd (miss plain_keys 7 tt h)

module _ {s : List ℕ} {x : Stand} {i : Item} {d : Cursor} {e : Result Effect Fault} (t : Turning s x i d e) where
  pub turning_later : (x.cursor.at < length s) × (x.cursor.at < d.at)
  turning_later = let p = next_found s x.cursor refl t.found in (omega (arith, p.later, p.inside), p.later)

  turns : turn_of s x ≡ effect_turn x d (place_at i) e
  unfolding turn_of next_turn
  turns = ap (next_turn s x) t.found ∙ ap (effect_turn x d (place_at i)) (sym t.asks)

  on_to : {y : Stand} → effect_turn x d (place_at i) e ≡ on y → advance_of s y ≡ advance_of s x
  on_to {y = y} g = sym (advance_on s x y (turns ∙ g))

  -- One item more is read.
  abbrev Counted : ℕ → Type 0
  Counted items = items ≡ (x.items + 1) % 2 ^ 64

  -- What is left behind the item gives the same.
  abbrev Same : Standing → Dates → List Dated → ℕ → Type 0
  Same st dates records items = advance_of s (stand d st dates records items x.frames) ≡ advance_of s x

  -- The stand behind the item, however its parts are kept.
  goes_to : {st : Standing} {dates : Dates} {records : List Dated} {items : ℕ} → effect_turn x d (place_at i) e ≡ goes_on x d e dates records → st ≡ standing_after x.standing e → Counted items → Same st dates records items
  goes_to {dates = dates} {records = records} g es ei = (λ k. advance_of s (stand d (es k) dates records (ei k) x.frames)) ∙ on_to g

  pub turning_stands : {f : Effect} {st : Standing} {items : ℕ} → e ≡ Ok f → OneOf plain_keys (tag_of the_type f) → st ≡ standing_after x.standing e → Counted items → Same st x.dates x.records items
  turning_stands {f = f} b k es ei =
      goes_to (subst (λ (g : Result Effect Fault). effect_turn x d (place_at i) g ≡ goes_on x d g x.dates x.records) (sym b) (plain_goes x d (place_at i) f k)) es ei

  pub turning_count : {n : ℕ} {st : Standing} {dates : Dates} {items : ℕ} → e ≡ Ok (Effect.Count n) → st ≡ standing_after x.standing e → dates ≡ all_cleared x.dates → Counted items → Same st dates x.records items
  unfolding effect_turn
  turning_count b es ed ei =
      rw ed (goes_to (ap (effect_turn x d (place_at i)) b ∙ ap (λ (f : Result Effect Fault). goes_on x d f (all_cleared x.dates) x.records) (sym b)) es ei)

  pub turning_all : {ch : Change} {st : Standing} {dates : Dates} {items : ℕ} → e ≡ Ok (Effect.All ch) → st ≡ standing_after x.standing (Ok (Effect.All ch)) → dates ≡ root_defined ch x.dates → Counted items
      → Same st dates x.records items
  unfolding effect_turn
  turning_all {ch = ch} b es ed ei =
      rw ed
      (goes_to (ap (effect_turn x d (place_at i)) b ∙ ap (λ (f : Result Effect Fault). goes_on x d f (root_defined ch x.dates) x.records) (sym b))
      (es ∙ ap (standing_after x.standing) (sym b)) ei)

  pub turning_one : {channel : ℕ} {ch : Change} {stood v : Settings} {new : Dated} {records : List Dated} {items : ℕ} → e ≡ Ok (Effect.One channel ch)
      → stood ≡ settled_at x.standing.root x.dates (get_or x.records channel zero_dated) → v ≡ applied ch stood → new ≡ noted x.dates.now v → records ≡ set x.records channel new
      → Counted items → Same x.standing x.dates records items
  unfolding effect_turn
  turning_one {channel = channel} {ch = ch} b es ev en er ei =
      let changed = en ∙ ap (noted x.dates.now) (ev ∙ ap (applied ch) es) in
      rw er
      ((λ k. advance_of s (stand d x.standing x.dates (set x.records channel (changed k)) (ei k) x.frames))
      ∙ on_to (ap (effect_turn x d (place_at i)) b))

  pub turning_refused : {fault : Fault} → e ≡ Err fault → stop (Err (refusal fault (place_at i))) x ≡ advance_of s x
  unfolding effect_turn
  turning_refused {fault = fault} b = sym (advance_stops s x (stop (Err (refusal fault (place_at i))) x) (turns ∙ ap (effect_turn x d (place_at i)) b))

-- ---- a waveform

-- A frame that is taken is not one too many.
abbrev pub Few : ℕ → Result (ℕ × Standing) Fault → Type 0
Few frames (Ok (n, st)) = frames < frames_limit
Few frames (Err fault) = Unit {0}

pub framed_few : (frames : ℕ) (st : Standing) (agree : Bool) (octets long : ℕ) → Few frames (framed_by frames st agree octets long)
unfolding framed_by framed_as
framed_few frames st agree octets long =
    let P = Few frames in
    pick_cases P (eqb octets 0) (λ _. tt)
    (λ _. pick_cases P (ltb octets_limit long) (λ _. tt)
    (λ _. pick_cases P (ltb block_limit st.root.block) (λ _. tt)
    (λ _. pick_cases P (leb frames_limit frames) (λ _. tt)
    (λ h. pick_cases P (not agree) (λ _. tt)
    (λ _. pick_cases P (not (pointer_fits st.start)) (λ _. tt)
    (λ _. leb-false frames_limit frames h))))))

-- The frame's channels are those of the first n records, l is their layout, and their records are brought up to date.
pub record Measured (s : List ℕ) (x : Stand) (i : Item) (d : Cursor) (start len n : ℕ) (l : Layout) (records : List Dated) (r : Result (ℕ × Standing) Fault) : Type 0 where
  pub turn : Turning s x i d (Ok (Effect.Frame start len))
  pub counts : n ≡ min (min (channels_of x.standing.counted) channel_limit) (length x.records)
  pub laid : l ≡ layout_of 0 (channels_at x)
  pub fresh : records ≡ records_at x
  pub gives : r ≡ framed_by x.frames x.standing l.agree l.octets len

pub turning_measured : {s : List ℕ} {x : Stand} {i : Item} {d : Cursor} {e : Result Effect Fault} {start len count n : ℕ} {l : Layout} {u v : List ℕ} {r : Result (ℕ × Standing) Fault} → Turning s x i d e → e ≡ Ok (Effect.Frame start len) → count ≡ channels_of x.standing.counted
    → n ≡ min (min count channel_limit) (length x.records) → records_in u ≡ x.records → Refreshed u (min count channel_limit) x.standing.root x.dates l v → r ≡ framed_by x.frames x.standing l.agree l.octets len
    → Measured s x i d start len n l (records_in v) r
turning_measured {x = x} {l = l} {v = v} t b ec en eu f er =
    record {
      turn = record { found = t.found; asks = sym b ∙ t.asks };
      counts = en ∙ ap (λ (k : ℕ). min (min k channel_limit) (length x.records)) ec;
      laid = f.layout ∙ (λ j. layout_of 0 (take (min (ec j) channel_limit) (settled_in x.standing.root x.dates (eu j))));
      fresh = f.records ∙ (λ j. refreshed (min (ec j) channel_limit) x.standing.root x.dates (eu j));
      gives = er;
    }

module _ {s : List ℕ} {x : Stand} {i : Item} {d : Cursor} {start len n : ℕ} {l : Layout} {records : List Dated} {r : Result (ℕ × Standing) Fault} (f : Measured s x i d start len n l records r) where
  counts_shown : n ≡ min (min (channels_of x.standing.counted) channel_limit) (length (stands_for x))
  counts_shown = f.counts ∙ ap (min (min (channels_of x.standing.counted) channel_limit)) (sym (table_long x.standing.root x.dates x.records))

  counted : n ≡ length (channels_at x)
  counted = counts_shown ∙ sym (length-take (min (channels_of x.standing.counted) channel_limit) (stands_for x))

  framed : effect_turn x d (place_at i) (Ok (Effect.Frame start len)) ≡ framed_turn x d (place_at i) start len r
  unfolding effect_turn layout_of
  framed = ap (framed_turn x d (place_at i) start len) (sym (f.gives ∙ (λ k. framed_by x.frames x.standing (f.laid k).agree (f.laid k).octets len)))

  -- The stand with the records as they are now.
  abbrev kept_here : Stand
  kept_here = stand x.cursor x.standing x.dates records x.items x.frames

  pub measured-refused : {fault : Fault} → r ≡ Err fault → stop (Err (refusal fault (place_at i))) kept_here ≡ advance_of s x
  unfolding framed_turn
  measured-refused {fault = fault} g =
      (λ k. stop (Err (refusal fault (place_at i))) (stand x.cursor x.standing x.dates (f.fresh k) x.items x.frames))
      ∙ sym (advance_stops s x (stop (Err (refusal fault (place_at i))) (refreshed_at x)) (turns f.turn ∙ framed ∙ ap (framed_turn x d (place_at i) start len) g))

  module _ {sequences : ℕ} {after : Standing} (g : r ≡ Ok (sequences, after)) where
    pub measured_last : x.frames < frames_limit
    measured_last = subst (Few x.frames) (sym f.gives ∙ g) (framed_few x.frames x.standing l.agree l.octets len)

    pub measured-taken : {w : Waveform} {items : ℕ} → w ≡ waveform_by x.standing n sequences start len l.octets → items ≡ (x.items + 1) % 2 ^ 64
        → stop (Ok (Some w)) (stand d after x.dates records items (x.frames + 1)) ≡ advance_of s x
    unfolding framed_turn layout_of
    measured-taken ew ei =
        (λ k. stop (Ok (Some (ew k))) (stand d after x.dates (f.fresh k) (ei k) (x.frames + 1)))
        ∙ (λ k. stop (Ok (Some (waveform_by x.standing (counted k) sequences start len (f.laid k).octets))) (behind x d after x.dates (records_at x) (x.frames + 1)))
        ∙ sym
        (advance_stops s x
        (stop (Ok (Some (waveform_by x.standing (length (channels_at x)) sequences start len (sequence_octets (channels_at x))))) (behind x d after x.dates (records_at x) (x.frames + 1)))
        (turns f.turn ∙ framed ∙ ap (framed_turn x d (place_at i) start len) g))

-- The octets below the channels, where their records are brought up to date.
below-kept : {u v : List ℕ} {n : ℕ} {root : Settings} {d : Dates} {l : Layout} → Refreshed u n root d l v → (k : ℕ) → k < min n (length (records_in u)) → below_in v k ≡ octets_below k (held_in v)
unfolding octets_below
below-kept {u = u} {v = v} {n = n} {root = root} {d = d} f k h =
    let cs = settled_in root d (records_in u) in
    let now = held (refreshed n root d (records_in u)) in
    f.below k (omega arith) (omega (arith, records-long u))
    ∙ ap sequence_octets
    (sym (take-take k n cs (omega arith)) ∙ ap (take k) (sym (held-refreshed root d n (records_in u))) ∙ take-take k n now (omega arith)
    ∙ ap (λ (t : List Dated). take k (held t)) (sym f.records))

pub below-frame : {u v : List ℕ} {most n channels : ℕ} {root : Settings} {d : Dates} {l : Layout} → Refreshed u most root d l v
    → n ≡ min most (length (records_in u)) → channels ≡ n → (k : ℕ) → k < channels → below_in v k ≡ octets_below k (held_in v)
below-frame f e ew k h = below-kept f k (omega (arith, e, ew, h))

-- What is past the last record stays the same through one change of the words after the other.
pub past_then : {u v w : List ℕ} → length v ≡ length u → PastKept u v → PastKept v w → PastKept u w
past_then l p q = record { same = λ m h. q.same m (rw l h) ∙ p.same m h }

pub past_put : {u v : List ℕ} {xs : List Dated} → Holding u xs v → PastKept u v
past_put o = record { same = λ m h. o.others m (inr h) }

-- ---- the answer

pub answered : {s u v : List ℕ} {h : Head} {r : Moved} {j k : Result (Option Waveform) Refusal} {c : Cursor} {st : Standing} {d : Dates} {items frames : ℕ} → r ≡ moved_to j c st d items frames → j ≡ k
    → stop k (stand c st d (records_in v) items frames) ≡ advance_of s (stand_of h u) → length v ≡ length u → PastKept u v → BelowKept v k → Advances s h u r v
answered e f same long past below = rw (e, f) (record { same = same; long = long; past = past; below = below })
