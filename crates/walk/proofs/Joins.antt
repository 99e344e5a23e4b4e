-- Where a walk of a file stands, and that the frames it stops at are the verdict's.
--     Stands, turn_stands    the items of a file of any length lead to where the walk stands, with these frames met; and so they do after one item more
--     Reaches            the same of a file within the limit
--     reaches_first, reaches_cleared    before the first item
--     reaches_grown      the frames met so far are the first of the file's
--     Counts             what a waveform says of its frame
--     advance_reaches    an advance leads on: behind one frame more, or to the verdict
--     joined-verdict     the frames that successive advances stop at, joined
-- Assumes nothing.
use Rattle.heads.specs.declared.Fault.{Fault}
use Rattle.effects.specs.declared.Effect.{Effect}
use Rattle.std.specs.Prelude.{Result, Ok, Err, Option, Some, None}
use Rattle.heads.specs.declared.Refusal.{Refusal}
use Rattle.std.proofs.Common.{◌≡◌, ℕ, zero, suc, ◌+◌, ◌-◌, ◌%◌, ◌^◌, ◌<◌, ◌≤◌, min, List, [], ◌∷◌, ◌++◌, map, length, take, drop, replicate, sym, refl, ap, ◌∙◌, subst, append_assoc, append-nil, arith, length-append, length-set, length-take}
use native.Mathlib.Nat.{min-le_left}
use lib.ListN.{length-map, length-replicate}
use Rattle.items.specs.declared.Item.{Item}
use Rattle.items.specs.declared.Cursor.{Cursor}
use Rattle.items.specs.declared.Within.TheVariants.{Root}
use Rattle.items.specs.Walk.{cursor, next_of, items_from, refusal}
use Rattle.items.proofs.Walks.{ItemLies, next_found, items_found, items_end, items_refused}
use Rattle.settings.specs.declared.Settings.{Settings}
use Rattle.settings.specs.Settings.{channel_limit, default_settings, applied}
use Rattle.dated.specs.declared.Dated.{Dated}
use Rattle.dated.specs.declared.Dates.{Dates}
use Rattle.dated.specs.Dated.{first_dates, noted, root_defined, all_cleared, settled_in, held}
use Rattle.dated.proofs.Tables.{Timely, timely_first, timely_longer, timely_set, timely_root, timely_cleared, table_begins}
use Rattle.dated.proofs.Refreshed.{refreshed-long, held-refreshed, settled_refreshed, timely_refreshed}
use Rattle.layout.specs.declared.Layout.{Layout}
use Rattle.layout.specs.Frame.{Frame, sequence_octets, all_agree}
use Rattle.layout.specs.Measure.{layout_of}
use Rattle.standing.specs.declared.Standing.{Standing}
use Rattle.standing.specs.Standing.{first_standing, octets_limit}
use Rattle.effects.specs.Effects.{effect_of, standing_after}
use Rattle.framing.specs.Framing.{channels_of}
use Rattle.framing.specs.AnyNumbers.{framed_by}
use Rattle.records.specs.Records.{outdated}
use Rattle.records.proofs.Laws.{timely_outdated, table_outdated}
use Rattle.verdict.specs.Verdict.{State, state, goes, refuses, with_frame, carried, place_at, accepted, refused, interpret, verdict, unlimited}
use Rattle.verdict.specs.Reached.{Reached, begin, behind as one-behind}
use Rattle.verdict.proofs.Keeps.{Keeps, frames-kept, interpret-refuses, within_limit, reached-unlimited, reached-verdict}
use Rattle.verdict.proofs.Steps.{meaning_steps, step_grown, waveform_found, waveform-long}
use Rattle.verdict.proofs.Frames.{frame-carried, count-few, taken_root}
use Rattle.verdict.proofs.Settled.{carried-count, carried-all, carried_one}
use Rattle.walk.specs.declared.Waveform.{Waveform}
use Rattle.walk.specs.Advance.{Stand, stand, first_stand, stands_for, channels_at, records_at, Turn, on, stops, behind, framed_turn, one_noted, effect_turn, next_turn, turn_of, advance_of}
use Rattle.walk.specs.Joined.{frame_by, joined_by, joined_in, joined}
use Rattle.walk.proofs.Turns.{Later, turn_later, advance_on, advance_stops}

-- The file's items lead to where the walk stands, with these frames met; the records are kept so that they say what stands. However long the file is, the
-- walk has not passed the limit.
pub record Stands (s : List ℕ) (met : List Frame) (x : Stand) : Type 0 where
  pub near : x.cursor.at ≤ octets_limit
  pub full : length x.records ≡ channel_limit
  pub kept : Timely (x.cursor.at + 1) x.dates x.records
  pub items : x.items ≤ x.cursor.at
  pub count : x.frames ≡ length met
  pub reached : Reached s (state x.standing (stands_for x) met) x.cursor

-- The same where all records are of the time before the first item, whatever they say.
pub stands_cleared : (s : List ℕ) (xs : List Dated) → length xs ≡ channel_limit → Stands s [] (stand (cursor 0 Root) first_standing first_dates (map outdated xs) 0 0)
stands_cleared s xs e =
    record {
      near = omega arith;
      full = length-map xs outdated ∙ e;
      kept = timely_longer (timely_outdated xs timely_first) (omega arith);
      items = omega arith;
      count = refl;
      reached = subst (λ (u : List Settings). Reached s (state first_standing u []) (cursor 0 Root)) (sym (table_outdated default_settings first_dates xs ∙ ap (λ (n : ℕ). replicate n default_settings) e)) begin;
    }

pub stands_first : (s : List ℕ) → Stands s [] first_stand
stands_first s =
    record {
      near = omega arith;
      full = length-replicate channel_limit (noted 0 default_settings);
      kept = timely_longer timely_first (omega arith);
      items = omega arith;
      count = refl;
      reached = rw table_begins begin;
    }

-- The same of a file within the limit.
pub record Reaches (s : List ℕ) (met : List Frame) (x : Stand) : Type 0 where
  pub long : length s ≤ octets_limit
  pub stands : Stands s met x

pub reaches_first : (s : List ℕ) → length s ≤ octets_limit → Reaches s [] first_stand
reaches_first s h = record { long = h; stands = stands_first s }

pub reaches_cleared : (s : List ℕ) (xs : List Dated) → length s ≤ octets_limit → length xs ≡ channel_limit → Reaches s [] (stand (cursor 0 Root) first_standing first_dates (map outdated xs) 0 0)
reaches_cleared s xs h e = record { long = h; stands = stands_cleared s xs e }

-- ---- the frames met so far are the first of the file's

abbrev First : List Frame → State → Cursor → Type 0
First fs y d = (rest : List Frame) × (y.frames ≡ fs ++ rest)

first_keeps : (s : List ℕ) (fs : List Frame) → Keeps s (First fs)
first_keeps s fs x c i d y p n m =
    let g = step_grown s x i y (meaning_steps s x i y m) in
    (p.0 ++ g.0, g.1 ∙ ap (λ (l : List Frame). l ++ g.0) p.1 ∙ append_assoc fs p.0 g.0)

pub reaches_grown : {s : List ℕ} {met : List Frame} {x : Stand} {fs : List Frame} → Reaches s met x → verdict s ≡ accepted fs → (rest : List Frame) × (fs ≡ met ++ rest)
reaches_grown {s} {met} {x} {fs} p e =
    let here = state x.standing (stands_for x) met in
    let k = frames-kept s (First met) (first_keeps s met) here x.cursor fs ([], sym (append-nil met)) (reached-verdict s p.long p.stands.reached ∙ e) in
    (k.holds.0, sym k.frames ∙ k.holds.1)

-- ---- what an advance comes to

-- A waveform says how many channels its frame has, the octets of a sequence, and its own length.
pub record Counts (v : Waveform) (f : Frame) : Type 0 where
  pub channels : v.channels ≡ length f.channels
  pub octets : v.octets ≡ sequence_octets f.channels
  pub long : v.len ≡ length f.waveform

-- What a step from a place comes to: behind one frame more, or the verdict, 15 left out.
abbrev pub StepStands : List ℕ → List Frame → ℕ → Result (Option Waveform) Refusal → Stand → Type 0
StepStands s met at (Ok (Some v)) y = (at < y.cursor.at) × (y.cursor.at ≤ length s) × Stands s (met ++ (frame_by s v y ∷ [])) y × Counts v (frame_by s v y)
StepStands s met at (Ok None) y = accepted met ≡ unlimited s
StepStands s met at (Err r) y = refused r ≡ unlimited s

-- What one turn comes to.
abbrev pub TurnStands : List ℕ → List Frame → ℕ → Turn → Type 0
TurnStands s met at (on y) = Stands s met y
TurnStands s met at (stops z) = StepStands s met at z.step z.at

take_again : (m : ℕ) (l : List Settings) → take (length (take m l)) l ≡ take m l
take_again zero l = refl
take_again (suc m) [] = refl
take_again (suc m) (a ∷ l) = ap (λ (u : List Settings). a ∷ u) (take_again m l)

module _ {s : List ℕ} {met : List Frame} {x : Stand} (p : Stands s met x) where
  abbrev here : State
  here = state x.standing (stands_for x) met

  left : interpret s here (items_from s x.cursor) ≡ unlimited s
  left = reached-unlimited s p.reached

  -- An item that ends within the limit.
  module _ {i : Item} {d : Cursor} (found : next_of s x.cursor ≡ Ok (Some (i, d))) (ends : d.at ≤ octets_limit) where
    forward : (x.cursor.at < length s) × (x.cursor.at < d.at) × (d.at ≤ length s)
    forward = let f = next_found s x.cursor refl found in (omega (arith, f.later, f.inside), f.later, f.inside)

    room : x.cursor.at + 1 + 1 < 2 ^ 32
    room = omega (arith, p.near)

    further : x.cursor.at + 1 + 1 ≤ d.at + 1
    further = omega (arith, forward)

    more-items : (x.items + 1) % 2 ^ 64 ≤ d.at
    more-items = omega (arith, forward, p.items, p.near)

    -- The item leads on.
    leads-on : (st : Standing) (dates : Dates) (records : List Dated) → length records ≡ channel_limit → Timely (d.at + 1) dates records
        → carried s here (effect_of s x.standing i) ≡ goes (state st (settled_in st.root dates records) met) → Stands s met (behind x d st dates records x.frames)
    leads-on st dates records l k g = record { near = ends; full = l; kept = k; items = more-items; count = p.count; reached = one-behind p.reached found g }

    -- Nothing but what stands changes, and not the root settings.
    stays : (st : Standing) → carried s here (effect_of s x.standing i) ≡ goes (state st (settled_in st.root x.dates x.records) met) → Stands s met (behind x d st x.dates x.records x.frames)
    stays st g = leads-on st x.dates x.records p.full (timely_longer p.kept (omega (arith, further))) g

    refuses-here : (fault : Fault) → carried s here (effect_of s x.standing i) ≡ refuses fault → refused (refusal fault (place_at i)) ≡ unlimited s
    refuses-here fault g = sym (interpret-refuses s here i (items_from s d) fault g) ∙ ap (interpret s here) (sym (items_found s x.cursor i d found)) ∙ left

    module _ {start len : ℕ} (a : Ok (Effect.Frame start len) ≡ effect_of s x.standing i) where
      abbrev count : ℕ
      count = channels_of x.standing.counted

      abbrev most : ℕ
      most = min count channel_limit

      abbrev laid : Layout
      laid = layout_of 0 (take count (stands_for x))

      few : count ≤ channel_limit
      few = count-few p.reached p.count 0 laid refl

      shown : channels_at x ≡ take count (stands_for x)
      shown = let e : min count channel_limit ≡ count = omega (arith, few) in ap (λ (n : ℕ). take n (stands_for x)) e

      -- A waveform is no longer than the limit.
      small : len ≤ octets_limit
      small =
          let w = waveform_found s x.standing i a refl in
          let f = subst (ItemLies x.cursor.at d.at) w.item (next_found s x.cursor refl found).lies in
          omega (arith, f, ends, w.counts, length-take w.len (drop start s), min-le_left w.len (length (drop start s)))

      -- It has as many octets as its item has.
      whole : len ≡ length (take len (drop start s))
      whole = sym (waveform-long s (waveform_found s x.standing i a refl))

      abbrev given : Result (ℕ × Standing) Fault
      given = framed_by x.frames x.standing laid.agree laid.octets len

      framed_stands : (f : Result (ℕ × Standing) Fault) → given ≡ f → TurnStands s met x.cursor.at (framed_turn x d (place_at i) start len f)
      unfolding framed_turn with_frame
      framed_stands (Ok (n, st)) e =
          let g = frame-carried p.reached p.count 0 laid refl i start len small a refl e in
          let root = taken_root p.reached p.count 0 laid refl i small a refl e in
          let same : stands_for x ≡ settled_in st.root x.dates (records_at x) =
          sym (settled_refreshed x.standing.root x.dates p.kept.sound most x.records) ∙ ap (λ (r : Settings). settled_in r x.dates (records_at x)) (sym root) in
          let hold : channels_at x ≡ take most (held (records_at x)) = sym (held-refreshed x.standing.root x.dates most x.records) in
          let there : channels_at x ≡ take (length (channels_at x)) (held (records_at x)) =
          hold ∙ sym (take_again most (held (records_at x))) ∙ ap (λ (u : List Settings). take (length u) (held (records_at x))) (sym hold) in
          let channels : take count (stands_for x) ≡ take (length (channels_at x)) (held (records_at x)) = sym shown ∙ there in (
            forward.1,
            forward.2,
            record {
              near = ends;
              full = refreshed-long x.standing.root x.dates most x.records ∙ p.full;
              kept = timely_longer (timely_refreshed x.standing.root x.dates most p.kept) (omega (arith, further));
              items = more-items;
              count = rw length-append (omega (arith, p.count));
              reached = one-behind p.reached found
                  (g
                  ∙ (λ k. goes
                  (state st (same k)
                  (met
                  ++ (record {
                    start = x.standing.start;
                    place = start;
                    little = x.standing.little;
                    sequences = n;
                    channels = channels k;
                    waveform = take len (drop start s);
                  } ∷ [])))));
            },
            record { channels = ap length there; octets = ap sequence_octets there; long = whole },
          )
      framed_stands (Err fault) e = refuses-here fault (frame-carried p.reached p.count 0 laid refl i start len small a refl e)

    effect_stands : (e : Result Effect Fault) → e ≡ effect_of s x.standing i → TurnStands s met x.cursor.at (effect_turn x d (place_at i) e)
    unfolding effect_turn carried layout_of
    effect_stands (Ok Effect.Pass) a = stays x.standing (ap (carried s here) (sym a))
    effect_stands (Ok (Effect.Order little)) a = stays (standing_after x.standing (Ok (Effect.Order little))) (ap (carried s here) (sym a))
    effect_stands (Ok (Effect.Count n)) a =
        leads-on (standing_after x.standing (Ok (Effect.Count n))) (all_cleared x.dates) x.records p.full (timely_longer (timely_cleared p.kept room) further)
        (ap (carried s here) (sym a) ∙ carried-count s x.standing x.dates x.records met p.kept p.full n)
    effect_stands (Ok (Effect.Sequences n)) a = stays (standing_after x.standing (Ok (Effect.Sequences n))) (ap (carried s here) (sym a))
    effect_stands (Ok (Effect.Start z)) a = stays (standing_after x.standing (Ok (Effect.Start z))) (ap (carried s here) (sym a))
    effect_stands (Ok (Effect.All ch)) a =
        leads-on (standing_after x.standing (Ok (Effect.All ch))) (root_defined ch x.dates) x.records p.full (timely_longer (timely_root p.kept room ch) further)
        (ap (carried s here) (sym a) ∙ carried-all s x.standing x.dates x.records met p.kept p.full ch room)
    effect_stands (Ok (Effect.One channel ch)) a =
        leads-on x.standing x.dates (one_noted x channel (applied ch)) (length-set x.records channel _ ∙ p.full) (timely_longer (timely_set p.kept channel _) (omega (arith, further)))
        (ap (carried s here) (sym a) ∙ carried_one s x.standing x.dates x.records met p.kept p.full channel ch)
    effect_stands (Ok (Effect.Frame start len)) a =
        subst (λ (cs : List Settings). TurnStands s met x.cursor.at (framed_turn x d (place_at i) start len (framed_by x.frames x.standing (all_agree cs) (sequence_octets cs) len))) (sym (shown a)) (framed_stands a (given a) refl)
    effect_stands (Err fault) a = refuses-here fault (ap (carried s here) (sym a))

  -- What one turn comes to, where the item ends within the limit.
  abbrev pub Near : Result (Option (Item × Cursor)) Refusal → Type 0
  Near (Ok (Some (i, d))) = d.at ≤ octets_limit
  Near (Ok None) = Unit {0}
  Near (Err r) = Unit {0}

  next-stands : (n : Result (Option (Item × Cursor)) Refusal) → next_of s x.cursor ≡ n → Near n → TurnStands s met x.cursor.at (next_turn s x n)
  unfolding next_turn interpret
  next-stands (Ok (Some (i, d))) e h = effect_stands e h (effect_of s x.standing i) refl
  next-stands (Ok None) e h = ap (interpret s here) (sym (items_end s x.cursor e)) ∙ left
  next-stands (Err r) e h = ap (interpret s here) (sym (items_refused s x.cursor r e)) ∙ left

  pub turn_stands : Near (next_of s x.cursor) → TurnStands s met x.cursor.at (turn_of s x)
  unfolding turn_of
  turn_stands h = next-stands (next_of s x.cursor) refl h

-- ---- an advance

-- What an advance from a place comes to: behind one frame more, or the verdict.
abbrev pub StepReaches : List ℕ → List Frame → ℕ → Result (Option Waveform) Refusal → Stand → Type 0
StepReaches s met at (Ok (Some v)) y = (at < y.cursor.at) × (y.cursor.at ≤ length s) × Reaches s (met ++ (frame_by s v y ∷ [])) y × Counts v (frame_by s v y)
StepReaches s met at (Ok None) y = accepted met ≡ verdict s
StepReaches s met at (Err r) y = refused r ≡ verdict s

step_reaches : (s : List ℕ) (met : List Frame) (at : ℕ) → length s ≤ octets_limit → (k : Result (Option Waveform) Refusal) (y : Stand) → StepStands s met at k y → StepReaches s met at k y
step_reaches s met at h (Ok (Some v)) y r = (r.0, r.1, record { long = h; stands = r.2 }, r.3)
step_reaches s met at h (Ok None) y r = r ∙ sym (within_limit s h)
step_reaches s met at h (Err q) y r = r ∙ sym (within_limit s h)

-- What one turn comes to.
abbrev TurnReaches : List ℕ → List Frame → ℕ → Turn → Type 0
TurnReaches s met at (on y) = Reaches s met y
TurnReaches s met at (stops z) = StepReaches s met at z.step z.at

near_found : {s : List ℕ} {met : List Frame} {x : Stand} (p : Stands s met x) → length s ≤ octets_limit → (n : Result (Option (Item × Cursor)) Refusal) → next_of s x.cursor ≡ n → Near p n
near_found {s} {x = x} p h (Ok (Some (i, d))) e = omega (arith, (next_found s x.cursor refl e).inside)
near_found p h (Ok None) e = tt
near_found p h (Err r) e = tt

turn_reaches : {s : List ℕ} {met : List Frame} {x : Stand} → Reaches s met x → TurnReaches s met x.cursor.at (turn_of s x)
turn_reaches {s} {met} {x} p = by (turn_of s x) (turn_stands p.stands (near_found p.stands p.long (next_of s x.cursor) refl))
  where
    by : (t : Turn) → TurnStands s met x.cursor.at t → TurnReaches s met x.cursor.at t
    by (on y) q = record { long = p.long; stands = q }
    by (stops z) q = step_reaches s met x.cursor.at p.long z.step z.at q

further_back : (s : List ℕ) (met : List Frame) {a b : ℕ} → a ≤ b → (k : Result (Option Waveform) Refusal) (y : Stand) → StepReaches s met b k y → StepReaches s met a k y
further_back s met h (Ok (Some v)) y r = (omega (arith, r.0), r.1, r.2, r.3)
further_back s met h (Ok None) y r = r
further_back s met h (Err q) y r = r

by_octets : (s : List ℕ) (met : List Frame) (k : ℕ) (x : Stand) → length s - x.cursor.at < k → Reaches s met x → StepReaches s met x.cursor.at (advance_of s x).step (advance_of s x).at
by_octets s met zero x h p = let z : ⊥ = omega arith in absurd z
by_octets s met (suc k) x h p = by_turn (turn_of s x) refl (λ y l q. by_octets s met k y l q)
  where
    by_turn : (t : Turn) → turn_of s x ≡ t → ((y : Stand) → length s - y.cursor.at < k → Reaches s met y → StepReaches s met y.cursor.at (advance_of s y).step (advance_of s y).at)
        → StepReaches s met x.cursor.at (advance_of s x).step (advance_of s x).at
    by_turn (on y) e ih =
        let l = subst (Later (length s) x.cursor.at) e (turn_later s x) in
        rw (advance_on s x y e)
        (further_back s met (omega arith) (advance_of s y).step (advance_of s y).at (ih y (omega arith) (subst (TurnReaches s met x.cursor.at) e (turn_reaches p))))
    by_turn (stops z) e ih = rw (advance_stops s x z e) (subst (TurnReaches s met x.cursor.at) e (turn_reaches p))

pub advance_reaches : {s : List ℕ} {met : List Frame} {x : Stand} → Reaches s met x → StepReaches s met x.cursor.at (advance_of s x).step (advance_of s x).at
advance_reaches {s} {met} {x} p = by_octets s met (suc (length s - x.cursor.at)) x (omega arith) p

-- ---- all frames

joined_in_lem : (s : List ℕ) (met : List Frame) (k : ℕ) (x : Stand) → length s - x.cursor.at < k → Reaches s met x → joined_in k s met x ≡ verdict s
unfolding joined_in joined_by
joined_in_lem s met zero x h p = let z : ⊥ = omega arith in absurd z
joined_in_lem s met (suc k) x h p = by_step (advance_of s x).step (advance_of s x).at (advance_reaches p) (λ fs y l q. joined_in_lem s fs k y l q)
  where
    by_step : (j : Result (Option Waveform) Refusal) (y : Stand) → StepReaches s met x.cursor.at j y
        → ((fs : List Frame) (z : Stand) → length s - z.cursor.at < k → Reaches s fs z → joined_in k s fs z ≡ verdict s) → joined_by (joined_in k s) s met j y ≡ verdict s
    by_step (Ok (Some v)) y r ih = ih (met ++ (frame_by s v y ∷ [])) y (omega (arith, r.0, r.1)) r.2
    by_step (Ok None) y r ih = r
    by_step (Err q) y r ih = r

-- The frames that a walk stops at, from the first item on, are the verdict's.
pub joined-verdict : (s : List ℕ) → length s ≤ octets_limit → joined s [] first_stand ≡ verdict s
unfolding joined
joined-verdict s h = joined_in_lem s [] (suc (length s - 0)) first_stand (omega arith) (reaches_first s h)
