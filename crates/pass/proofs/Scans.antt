-- Laws of the one pass over a file.
--     scanning_first, -on, -frame    before the first item, behind items that give no frame, behind a frame
--     scanned_end, -refuses, -fault    the three ways out
-- Assumes nothing.
use Rattle.heads.specs.declared.Fault.{Fault}
use Rattle.effects.specs.declared.Effect.{Effect}
use Rattle.std.specs.Prelude.{Result, Ok, Err, Option, Some, None}
use Rattle.view.specs.declared.View.{View}
use mathlib.Core.Path.{◌≡◌, refl, sym, ap, ◌∙◌}
use mathlib.Core.List.{List, [], ◌∷◌, ◌++◌}
use mathlib.Core.Bool.{Bool}
use Prim.Native.Nat.{ℕ, ◌+◌, ◌-◌, ◌≤◌, ◌<◌, min, ◌^◌}
use native.Mathlib.Nat.{add-zero, add_assoc, zero-add}
use native.Mathlib.Omega.{arith}
use native.Mathlib.Decide.{dec_lt}
use borrow.Author.Tests.{lt-ltb, le-ltb, ltb-true, eqb-true, eqb-false, eq-eqb, ne_eqb}
use lib.Dec.{ltb, eqb}
use lib.ListN.{length, get_or, take, length-append, get_or-append}
use lib.Seq.{length-take-le, get_or-append_seam, get_or-take}
use Rattle.octets.specs.Pick.{pick}
use Rattle.octets.proofs.Pick.{pick_cases}
use Rattle.items.specs.declared.Item.{Item}
use Rattle.items.specs.declared.Cursor.{Cursor}
use Rattle.heads.specs.declared.Refusal.{Refusal}
use Rattle.items.specs.declared.Within.TheVariants.{Root}
use Rattle.heads.specs.declared.Fault.TheVariants.{LongFile}
use Rattle.items.specs.Walk.{next_of, items_from, cursor, refusal}
use Rattle.items.proofs.Walks.{items_found, items_end, items_refused}
use Rattle.settings.specs.declared.Settings.{Settings}
use Rattle.settings.specs.Settings.{channel_limit, default_settings, default_table, zero_settings}
use Rattle.layout.specs.declared.Layout.{Layout}
use Rattle.layout.specs.Frame.{Frame, channel_in}
use Rattle.sizes.specs.Size.{frame_size}
use Rattle.layout.specs.Measure.{layout_of}
use Rattle.standing.specs.declared.Standing.{Standing}
use Rattle.pass.specs.declared.Asked.{Asked}
use Rattle.standing.specs.Standing.{octets_limit, frames_limit, first_standing}
use Rattle.effects.specs.Effects.{effect_of}
use Rattle.framing.specs.Framing.{channels_of}
use Rattle.framing.specs.AnyNumbers.{framed_by}
use Rattle.verdict.specs.Verdict.{State, state, refuses, frame_at, with_frame, carried, place_at, accepted, refused, interpret, verdict}
use Rattle.pass.specs.declared.Met.{Met}
use Rattle.verdict.specs.Reached.{Reached, begin, behind}
use Rattle.pass.specs.Passing.{Scanning, none_met, met_scan, view_met, met_with}
use Rattle.verdict.proofs.Keeps.{interpret-refuses, reached-verdict}
use Rattle.there.specs.There.{there_octets, octets_there}
use Rattle.verdict.proofs.Steps.{waveform_found, waveform-long}
use Rattle.verdict.proofs.Frames.{waveform-small, frame-carried, count-few, counts_there}
use Rattle.verdict.proofs.Bounds.{Bounded, reached_bounded}
use Rattle.view.specs.View.{view_of}
use Rattle.pass.specs.Scan.{zero_frame, found_in, size_of, sizes, refused_scan, scanned_in, scan_of}

-- ---- the pass

-- Before the first item.
pub scanning_first : (s : List ℕ) (q : Asked) (table : List Settings) (c : Cursor) (st : Standing) → length s ≤ octets_limit → table ≡ default_table → c ≡ cursor 0 Root → st ≡ first_standing → Scanning s q table c st none_met
unfolding found_in sizes
scanning_first s q table c st h et ec es =
    rw (et, ec, es)
    record {
      long = h;
      met = [];
      reached = begin;
      count = refl;
      kept = simp (le-ltb q.frame 0 (omega arith));
      sized = refl;
      room = omega arith;
    }

module _ {s : List ℕ} {q : Asked} {table : List Settings} {c : Cursor} {st : Standing} {m : Met} (p : Scanning s q table c st m) where
  abbrev scanned_state : State
  scanned_state = state st table p.met

  bounds : Bounded scanned_state
  bounds = reached_bounded s p.reached

  pub scanning_counted : st.counted ≤ channel_limit
  scanning_counted = bounds.counted

  pub scanning_few : m.frames ≤ frames_limit
  scanning_few = rw p.count bounds.few

  -- The items go on, and none of them gives a frame.
  pub scanning_on : {d : Cursor} {table' : List Settings} {st' : Standing} → Reached s (state st' table' p.met) d → Scanning s q table' d st' m
  scanning_on r =
      record { long = p.long; met = p.met; reached = r; count = p.count; kept = p.kept; sized = p.sized; room = p.room }

  left : interpret s scanned_state (items_from s c) ≡ verdict s
  left = reached-verdict s p.long p.reached

  -- The end.
  pub scanned_end : {n : Result (Option (Item × Cursor)) Refusal} → n ≡ next_of s c → n ≡ Ok None → met_scan m ≡ scan_of q s
  unfolding scan_of scanned_in interpret
  scanned_end e f =
      let v : accepted p.met ≡ verdict s = ap (interpret s scanned_state) (sym (items_end s c (sym e ∙ f))) ∙ left in
      (λ k. record { checked = Ok (p.count k); found = p.kept k; size = p.sized k }) ∙ ap (scanned_in q) v

  -- A fault of form.
  pub scanned_fault : {n : Result (Option (Item × Cursor)) Refusal} (r : Refusal) → n ≡ next_of s c → n ≡ Err r → refused_scan r ≡ scan_of q s
  unfolding scan_of scanned_in interpret
  scanned_fault r e f =
      ap (scanned_in q) (ap (interpret s scanned_state) (sym (items_refused s c r (sym e ∙ f))) ∙ left)

  -- A refused item.
  pub scanned_refuses : {n : Result (Option (Item × Cursor)) Refusal} {i : Item} {d : Cursor} (k : Fault) (place : ℕ) → n ≡ next_of s c → n ≡ Ok (Some (i, d)) → place ≡ place_at i → carried s scanned_state (effect_of s st i) ≡ refuses k → refused_scan (refusal k place) ≡ scan_of q s
  unfolding scan_of scanned_in
  scanned_refuses {i = i} {d = d} k place e f ep g =
      ap (λ (x : ℕ). scanned_in q (refused (refusal k x))) ep
      ∙ ap (scanned_in q) (sym (interpret-refuses s scanned_state i (items_from s d) k g) ∙ ap (interpret s scanned_state) (sym (items_found s c i d (sym e ∙ f))) ∙ left)

-- ---- a frame

sizes-more : (fs : List Frame) (g : Frame) → sizes (fs ++ (g ∷ [])) ≡ sizes fs + size_of g
unfolding sizes
sizes-more [] g = rw (add-zero, zero-add)
sizes-more (f ∷ fs) g = rw (sizes-more fs g) (sym (add_assoc (size_of f) (sizes fs) (size_of g)))

-- One frame more is found where it is the one that is asked for.
found_more : (q : Asked) (fs : List Frame) (g : Frame) → pick (eqb (length fs) q.frame) (Some (view_of q.channel g)) (found_in q fs) ≡ found_in q (fs ++ (g ∷ []))
unfolding found_in
found_more q fs g =
    pick_cases (λ (r : Option View). r ≡ found_in q (fs ++ (g ∷ []))) (eqb (length fs) q.frame)
    (λ e. let h = eqb-true (length fs) q.frame e in
    rw (← h) (simp (length-append, lt-ltb (length fs) (length fs + 1) (omega arith), get_or-append_seam fs g [] zero_frame)))
    (λ e. let h = eqb-false (length fs) q.frame e in other h (dec_lt q.frame (length fs)))
  where
    other : (length fs ≡ q.frame → ⊥) → Dec (q.frame < length fs) → found_in q fs ≡ found_in q (fs ++ (g ∷ []))
    other n (yes l) =
        let m : q.frame < length fs + 1 = omega arith in
        simp (length-append, lt-ltb q.frame (length fs) l, lt-ltb q.frame (length fs + 1) m, get_or-append fs (g ∷ []) zero_frame q.frame l)
    other n (no l) =
        let m : length fs + 1 ≤ q.frame = omega arith in
        let k : length fs ≤ q.frame = omega arith in
        simp (length-append, le-ltb q.frame (length fs) k, le-ltb q.frame (length fs + 1) m)

-- A frame is kept where it is the one that is asked for.
pub kept_this : {a b : ℕ} (x y : Option View) → a ≡ b → x ≡ pick (eqb a b) x y
kept_this {a = a} {b = b} x y e = sym (ap (λ (t : Bool). pick t x y) (eq-eqb a b e))

pub kept_before : {a b : ℕ} (x y : Option View) → (a ≡ b → ⊥) → y ≡ pick (eqb a b) x y
kept_before {a = a} {b = b} x y n = sym (ap (λ (t : Bool). pick t x y) (ne_eqb a b n))

-- The channel that is asked for, as the table has it and as the frame has it.
channel_seen : (channel count : ℕ) (table : List Settings) → count ≤ channel_limit → length table ≡ channel_limit
    → pick (ltb channel count) (get_or table (min channel (channel_limit - 1)) zero_settings) default_settings ≡ pick (ltb channel (length (take count table))) (channel_in channel (take count table)) default_settings
channel_seen channel count table h l =
    let e : length (take count table) ≡ count = length-take-le count table (omega arith) in
    rw e
    (pick_cases (λ (r : Settings). r ≡ pick (ltb channel count) (channel_in channel (take count table)) default_settings) (ltb channel count)
    (λ t. let k = ltb-true channel count t in
    let m : min channel (channel_limit - 1) ≡ channel = omega arith in
    simp (t, m, get_or-take count table channel zero_settings k))
    (λ t. simp t))

module _ {s : List ℕ} {q : Asked} {table : List Settings} {c : Cursor} {st : Standing} {m : Met} (p : Scanning s q table c st m)
    (l : Layout) (el : l ≡ layout_of q.channel (take (channels_of st.counted) table))
    (i : Item) {start len sequences : ℕ} {x : Standing} {r : Result (ℕ × Standing) Fault}
    (ee : Ok (Effect.Frame start len) ≡ effect_of s st i) (er : r ≡ framed_by m.frames st l.agree l.octets len) (fr : r ≡ Ok (sequences, x)) where
  -- The frame is met; v are the settings of the channel that is asked for, where the frame has it.
  pub scanning_frame : {d : Cursor} (v : Settings)
      → next_of s c ≡ Ok (Some (i, d))
      → pick (ltb q.channel (channels_of st.counted)) v default_settings ≡ pick (ltb q.channel (channels_of st.counted)) (get_or table (min q.channel (channel_limit - 1)) zero_settings) default_settings
      → {there : ℕ} → there ≡ there_octets (take (channels_of st.counted) table) sequences len
      → frame_size sequences l.groups there < 2 ^ 32
      → Scanning s q table d x (met_with q st sequences start len l there v m)
  unfolding with_frame layout_of view_of size_of octets_there
  scanning_frame v en ev et small =
      let count = channels_of st.counted in
      let few = count-few p.reached p.count q.channel l el in
      let all = counts_there p.reached p.count q.channel l el in
      let g = frame_at s (scanned_state p) start len sequences in
      let seen = ev ∙ channel_seen q.channel count table few (bounds p).full in
      let whole = sym (waveform-long s (waveform_found s st i ee refl)) in
      let vw : view_met q.channel st sequences start len l v ≡ view_of q.channel g =
      λ k. record { start = st.start; channels = sym all k; sequences = sequences; little = st.little; place = start; long = whole k; octets = (el k).octets; below = (el k).below; settings = seen k } in
      let there = et ∙ ap (there_octets (take count table) sequences) whole in
      let sz : frame_size sequences l.groups _ ≡ size_of g = λ k. frame_size sequences (el k).groups (there k) in
      record {
        long = p.long;
        met = p.met ++ (g ∷ []);
        reached = behind p.reached en (frame-carried p.reached p.count q.channel l el i start len (waveform-small s st i p.long ee) ee er fr);
        count = simp length-append (omega (arith, p.count));
        kept = (λ k. pick (eqb (p.count k) q.frame) (Some (vw k)) (p.kept k)) ∙ found_more q p.met g;
        sized = (λ k. p.sized k + sz k) ∙ sym (sizes-more p.met g);
        room = omega (arith, p.room, small);
      }

-- 15 comes first.
pub scanned_large : (s : List ℕ) (q : Asked) → octets_limit < length s → refused_scan (refusal LongFile 0) ≡ scan_of q s
unfolding scan_of scanned_in verdict
scanned_large s q h = simp (lt-ltb octets_limit (length s) h)
