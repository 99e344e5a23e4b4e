-- Each way an item goes on.
--     next_follows     the next item begins
--     turned_follows   an item that is no waveform leads on or is refused
--     done_follows     a value's last octet has come
--     definite_follows, open_follows    a group begins
--     over_follows, wave_follows        a waveform is over; one begins
--     faulty_follows, past-follows, wanting-follows    a fault of form
-- Assumes nothing.
use Rattle.heads.specs.declared.Fault.{Fault}
use Rattle.effects.specs.declared.Effect.{Effect}
use Rattle.heads.specs.declared.ItemHead.{ItemHead}
use Rattle.std.specs.Prelude.{Result, Ok, Err, Option, Some, None}
use Prim.Native.Nat.{ℕ, zero, suc, ◌+◌, ◌≤◌, ◌<◌}
use mathlib.Core.Path.{◌≡◌, refl, sym, ◌∙◌, ap, subst}
use mathlib.Core.List.{List, [], ◌∷◌, ◌++◌, append-nil, append_assoc}
use mathlib.Core.Bool.{Bool, true, false}
use mathlib.Core.Logic.{inl, inr}
use native.Mathlib.Omega.{arith}
use native.Mathlib.Decide.{dec_lt}
use borrow.Author.Tests.{ltb-true, ltb-false, lt-leb}
use lib.Dec.{ltb}
use lib.ListN.{length, take, drop, replicate, length-append, length-take, length-drop, length-replicate, drop_of_length-le}
use lib.Seq.{get_or-append_seam}
use Rattle.octets.specs.Pick.{pick}
use Rattle.octets.proofs.Pick.{pick_cases}
use Rattle.heads.specs.declared.Refusal.{Refusal}
use Rattle.heads.specs.Head.{form_of}
use Rattle.heads.specs.declared.Fault.TheVariants.{PastEnd, LongFile}
use Rattle.items.specs.declared.Within.{Within}
use Rattle.items.specs.declared.Within.TheVariants.{Root}
use Rattle.items.specs.declared.Cursor.{Cursor}
use Rattle.items.specs.declared.Item.{Item}
use Rattle.items.specs.declared.Item.TheVariants.{Plain}
use Rattle.items.specs.Walk.{refusal, cursor, stands_in, is_inside, ends_open, item_of, next_of}
use Rattle.dated.specs.Dated.{held}
use Rattle.layout.specs.Frame.{Frame, width_in, channel_in, offset_of}
use Rattle.there.specs.There.{is_there}
use Rattle.standing.specs.Standing.{octets_limit}
use Rattle.effects.specs.Effects.{value_at, effect_of}
use Rattle.verdict.specs.Verdict.{place_at, refused, unlimited}
use Rattle.verdict.proofs.Cuts.{CutsFrom, found_cuts}
use Rattle.verdict.proofs.Every.{every_at}
use Rattle.pass.specs.Scan.{zero_frame}
use Rattle.reader.proofs.Ordered.{Lies, Blocked, reached_lying}
use Rattle.walk.specs.declared.Waveform.{Waveform}
use Rattle.walk.specs.Advance.{Stand, stop, Turn, on, stops, effect_turn}
use Rattle.walk.specs.Joined.{frame_by}
use Rattle.walk.proofs.Joins.{Stands, Counts, TurnStands}
use Rattle.link.specs.Link.{Coming, Given, Phase, head, Link, link, cut_at, group_at, condemned, first_coming, waved, stopped_at, turned_by, kept_limit, item_at, within_after, done_item, group_begins}
use Rattle.link.specs.Order.{sample_given, samples_given, frames_given}
use Rattle.link.proofs.Seen.{ends_in, Whole, Inside, longer, next_fits, next_past, next_definite, next_definite_past, next_open}
use Rattle.link.proofs.Item.{Plainly, item_found, found_item, found_place, value-is, effect_same, after_same, effect_frame, effect_bare, group_bare}
use Rattle.link.proofs.Rest.{rest, rest_first, rest-past}
use Rattle.link.proofs.Arrives.{Good, ArrivesAt, arrives_first, rest-none}
use Rattle.link.proofs.Follows.{within_of, Cut, Outer, Resumes, fault-is, found_is, TurnsTo, turns_to, Silent, Last, Tells, Begun, channels_by, InWave, Follows, waiting_follows, cut_here, condemned_follows}

-- ---- the next item begins

-- A definite group that is not left has octets to come.
stands-below : (n : ℕ) (w : Within) → Inside (stands_in n w) (suc n)
stands-below n Within.Root = tt
stands-below n (Within.Definite channel end) = pick_cases (λ (z : Within). Inside z (suc n)) (ltb n end) (λ e. ltb-true n end e) (λ _. tt)
stands-below n (Within.Open channel place) = tt

pub inside_less : (w : Within) (m n : ℕ) → m ≤ n → Inside w n → Inside w m
inside_less Within.Root m n h i = tt
inside_less (Within.Definite channel end) m n h i = omega arith
inside_less (Within.Open channel place) m n h i = tt

-- What has come is inside.
pub room-begun : (w : Within) (m k : ℕ) → k ≤ m → Inside w k → k ≤ ends_in w m
room-begun Within.Root m k h i = h
room-begun (Within.Definite channel end) m k h i = i
room-begun (Within.Open channel place) m k h i = h

outer_less : (w : Within) (around at : ℕ) → around < at → Outer w around at
outer_less Within.Root around at h = tt
outer_less (Within.Definite channel end) around at h = h
outer_less (Within.Open channel place) around at h = tt

-- Between two items the place is kept that an end in a definite group wants.
outer_kept : (w : Within) (around at : ℕ) → Outer w around at → Outer w (group_at w around) at
outer_kept Within.Root around at h = tt
outer_kept (Within.Definite channel end) around at h = h
outer_kept (Within.Open channel place) around at h = tt

cut_kept : (w : Within) (around m : ℕ) → Cut w m → around ≡ group_at w around
cut_kept Within.Root around m h = absurd h
cut_kept (Within.Definite channel end) around m h = refl
cut_kept (Within.Open channel place) around m h = absurd h

-- An end inside an item is not 3 behind its tag.
pub cut_before : (w : Within) (around at : ℕ) → Outer w around at → cut_at w at around ≤ at
cut_before Within.Root around at h = omega arith
cut_before (Within.Definite channel end) around at h = omega arith
cut_before (Within.Open channel place) around at h = omega arith

module _ (s : List ℕ) (n : ℕ) (y : Stand) (around : ℕ) (v : Waveform) (gs : List Given) where
  -- What is known where an item has led on to y.
  pub next_follows : (c : Cursor) (met : List Frame) → Tells s v y met → gs ≡ frames_given met → n ≡ length s → y.cursor ≡ c → c.at ≡ length s → y.frames ≡ length met
      → Outer (stands_in c.at c.within) around c.at
      → ((t : List ℕ) → Whole (stands_in c.at c.within) (length (s ++ t)) → Stands (s ++ t) met y)
      → ((t : List ℕ) → Cut (stands_in c.at c.within) (length (s ++ t)) → unlimited (s ++ t) ≡ refused (refusal PastEnd around))
      → Follows s gs (link n y around v (head []))
  unfolding form_of
  next_follows c met tells out counts is here many outer stands cut =
      let at : y.cursor.at ≡ length s = ap (λ (d : Cursor). d.at) is ∙ here in
      let goes : Inside (within_of y) (suc (length s)) = subst (λ (k : ℕ). Inside (within_of y) (suc k)) at (stands-below y.cursor.at y.cursor.within) in
      record {
        resumes =
            record {
              met = met;
              out = out;
              counts = counts;
              many = many;
              before = omega (arith, at);
              inside = inside_less (within_of y) (length s) (suc (length s)) (omega arith) goes;
              outer = subst (λ (d : Cursor). Outer (stands_in d.at d.within) around d.at) (sym is) outer;
              stands = λ t h. stands t (subst (λ (d : Cursor). Whole (stands_in d.at d.within) (length (s ++ t))) is h);
              cut = λ t h. cut t (subst (λ (d : Cursor). Cut (stands_in d.at d.within) (length (s ++ t))) is h);
            };
        tells = tells;
        octets = drop_of_length-le s {i = y.cursor.at} (omega (arith, at));
        wants = refl;
        goes = goes;
      }

-- ---- what frames give out

-- A sample that ends behind the waveform is not there.
not_there : (f : Frame) (c k : ℕ) → length f.waveform < offset_of f.channels c k + width_in (channel_in c f.channels) → sample_given f c k ≡ []
unfolding sample_given is_there
not_there f c k h = simp (lt-leb (offset_of f.channels c k + width_in (channel_in c f.channels)) (length f.waveform) h)

frames-more : (fs : List Frame) (f : Frame) → frames_given (fs ++ (f ∷ [])) ≡ frames_given fs ++ samples_given f
unfolding frames_given
frames-more [] f = append-nil (samples_given f)
frames-more (g ∷ fs) f = ap (λ (l : List Given). samples_given g ++ l) (frames-more fs f) ∙ sym (append_assoc (samples_given g) (frames_given fs) (samples_given f))

-- ---- a waveform is over

-- The frame whose waveform has come.
abbrev frame_now : List ℕ → Waveform → Stand → Frame
frame_now s v y = frame_by s v y

frame_longer : (s t : List ℕ) (v : Waveform) (y : Stand) → v.place + v.len ≡ length s → frame_by (s ++ t) v y ≡ frame_now s v y
frame_longer s t v y e =
    let same : value_at (s ++ t) v.place v.len ≡ value_at s v.place v.len =
    value-is s t v.place v.len e ∙ sym (subst (λ (u : List ℕ). value_at u v.place v.len ≡ drop v.place s) (append-nil s) (value-is s [] v.place v.len e)) in
    λ k. record {
      start = v.start;
      place = v.place;
      little = v.little;
      sequences = v.sequences;
      channels = take v.channels (held y.records);
      waveform = same k;
    }

-- All its samples that are there were given out.
module _ (s : List ℕ) (n : ℕ) (y : Stand) (around : ℕ) (v : Waveform) (gs : List Given) (t : Coming) (p : InWave s n y around v gs 0 t) where
  ends_now : v.place + v.len ≡ length s
  ends_now = omega (arith, p.ends)

  alone : s ++ [] ≡ s
  alone = append-nil s

  -- None of those still to come is there.
  none-there : rest (sample_given (frame_now s v y)) (channels_by v y) v.sequences t ≡ []
  none-there = by (dec_lt t.sequence v.sequences)
    where
      long : length (frame_now s v y).waveform ≡ v.len
      long = rw (length-take, length-drop) (omega (arith, ends_now))

      by : Dec (t.sequence < v.sequences) → rest (sample_given (frame_now s v y)) (channels_by v y) v.sequences t ≡ []
      by (yes h) =
          let a = p.arrives h in
          rest-none (sample_given (frame_now s v y)) (channels_by v y) v.sequences v.len p.good
          (λ c k l. not_there (frame_now s v y) c k (rw long l)) t a.among (omega (arith, a.place, a.come, ends_now))
      by (no h) = rest-past (sample_given (frame_now s v y)) (channels_by v y) v.sequences t (omega arith)

  all-given : p.here ≡ samples_given (frame_now s v y)
  all-given =
      sym
      (subst (λ (u : List ℕ). samples_given (frame_by u v y) ≡ p.here ++ rest (sample_given (frame_by u v y)) (channels_by v y) v.sequences t) alone (p.coming [] (rw alone (omega arith)))
      ∙ ap (λ (r : List Given). p.here ++ r) none-there
      ∙ append-nil p.here)

  last : Last s v y (p.met ++ (frame_now s v y ∷ []))
  last =
      let end : length s + 0 ≡ length s = omega arith in
      record {
        before = p.met;
        is = refl;
        counted = subst (λ (u : List ℕ). Counts v (frame_by u v y)) alone (p.stands [] (rw alone (omega arith))).1;
        here = p.behind ∙ ap (λ (k : ℕ). cursor k Root) end;
      }

  over_follows : Follows s gs (link n y around v (head []))
  over_follows =
      next_follows s n y around v gs (cursor (length s + 0) Root) (p.met ++ (frame_now s v y ∷ [])) (inr last)
      (p.out ∙ ap (λ (l : List Given). frames_given p.met ++ l) all-given ∙ sym (frames-more p.met (frame_now s v y)))
      p.counts p.behind (omega arith)
      (p.many ∙ sym (length-append p.met (frame_now s v y ∷ []))) tt
      (λ u h. subst (λ (f : Frame). Stands (s ++ u) (p.met ++ (f ∷ [])) y) (frame_longer s u v y ends_now) (p.stands u (omega (arith, longer s u))).0)
      (λ u h. absurd h)

-- In a waveform of which so many octets are still to come, or behind it.
pub waved_follows : (s : List ℕ) (n : ℕ) (y : Stand) (around : ℕ) (v : Waveform) (gs : List Given) (left : ℕ) (t : Coming) → InWave s n y around v gs left t → Follows s gs (link n y around v (waved left t))
unfolding waved
waved_follows s n y around v gs zero t p = over_follows s n y around v gs t p
waved_follows s n y around v gs (suc left) t p = (p, omega arith)

-- At its first octet all its samples are to come.
samples_first : (f : Frame) → 0 < length f.channels → samples_given f ≡ [] ++ rest (sample_given f) f.channels f.sequences first_coming
unfolding samples_given
samples_first f h = rest_first (sample_given f) f.channels f.sequences h

-- Blocks and samples have octets in a frame that is met.
frame_good : {s : List ℕ} (met : List Frame) (f : Frame) {y : Stand} → Stands s (met ++ (f ∷ [])) y → Good f.channels
frame_good {s} met f p =
    let k : length met < length (met ++ (f ∷ [])) = rw length-append (omega arith) in
    let q = reached_lying p.reached in
    let is = get_or-append_seam met f [] zero_frame in
    let l = subst (Lies s) is (every_at (Lies s) (met ++ (f ∷ [])) q.lies zero_frame (length met) k) in
    let b = subst Blocked is (every_at Blocked (met ++ (f ∷ [])) q.blocks zero_frame (length met) k) in
    record { some = l.some; blocks = b; widths = l.wide }

-- What a waveform's effect says.
abbrev frame_start : Result Effect Fault → ℕ
frame_start (Ok Effect.Pass) = 0
frame_start (Ok (Effect.Order little)) = 0
frame_start (Ok (Effect.Count n)) = 0
frame_start (Ok (Effect.Sequences n)) = 0
frame_start (Ok (Effect.Start z)) = 0
frame_start (Ok (Effect.All ch)) = 0
frame_start (Ok (Effect.One channel ch)) = 0
frame_start (Ok (Effect.Frame start len)) = start
frame_start (Err fault) = 0

abbrev frame_length : Result Effect Fault → ℕ
frame_length (Ok Effect.Pass) = 0
frame_length (Ok (Effect.Order little)) = 0
frame_length (Ok (Effect.Count n)) = 0
frame_length (Ok (Effect.Sequences n)) = 0
frame_length (Ok (Effect.Start z)) = 0
frame_length (Ok (Effect.All ch)) = 0
frame_length (Ok (Effect.One channel ch)) = 0
frame_length (Ok (Effect.Frame start len)) = len
frame_length (Err fault) = 0

-- ---- an item that is no waveform

module _ (s : List ℕ) (n : ℕ) (x : Stand) (around : ℕ) (v : Waveform) (ph : Phase) (gs : List Given) (limit : length s ≤ octets_limit) (silent : Silent v) (p : Resumes s n x around gs) where
  abbrev at : ℕ
  at = x.cursor.at

  abbrev w : Within
  w = within_of x

  abbrev pub cut_place : ℕ
  cut_place = cut_here s n x around v ph gs limit silent p

  abbrev pub marked_here : Link
  marked_here = link n x cut_place v ph

  -- It has this effect, and the next item begins at c.
  pub record Leads (left : ℕ) (c : Cursor) (e : Result Effect Fault) : Type 0 where
    pub here : c.at ≡ length s
    pub later : at < length s
    pub fits : Inside w (length s + left)
    pub item : Item
    pub place : place_at item ≡ at
    pub found : (t : List ℕ) → Whole w (length (s ++ t)) → length s + left ≤ length (s ++ t) → next_of (s ++ t) x.cursor ≡ Ok (Some (item, c))
    pub effect : (t : List ℕ) → effect_of (s ++ t) x.standing item ≡ e
    pub cuts : (t : List ℕ) → Whole w (length (s ++ t)) → length (s ++ t) < length s + left → unlimited (s ++ t) ≡ refused (refusal PastEnd cut_place)
    pub bare : (from long : ℕ) → e ≡ Ok (Effect.Frame from long) → ⊥
    pub after : (t : List ℕ) → Whole (stands_in c.at c.within) (length (s ++ t)) → Whole w (length (s ++ t)) × (length s + left ≤ length (s ++ t))
    pub cut : (t : List ℕ) → Cut (stands_in c.at c.within) (length (s ++ t)) → unlimited (s ++ t) ≡ refused (refusal PastEnd cut_place)

  pub turned_follows : (left : ℕ) (c : Cursor) (e : Result Effect Fault) → Leads left c e → Follows s gs (turned_by left (effect_turn x c at e) marked_here)
  unfolding turned_by stopped_at
  turned_follows left c e q = by (effect_turn x c at e) (turns_to x c at e) known
    where
      known : (t : List ℕ) → Whole w (length (s ++ t)) → length s + left ≤ length (s ++ t) → TurnStands (s ++ t) p.met at (effect_turn x c at e)
      known t h k =
          subst (λ (f : Result Effect Fault). TurnStands (s ++ t) p.met at (effect_turn x c at f)) (q.effect t)
          (subst (λ (a : ℕ). TurnStands (s ++ t) p.met at (effect_turn x c a (effect_of (s ++ t) x.standing q.item))) q.place
          (found_is (p.stands t h) (q.found t h k) (omega (arith, q.here))))

      by_step : (k : Result (Option Waveform) Refusal) (y : Stand) → TurnsTo x c at e (stops (stop k y))
          → ((t : List ℕ) → Whole w (length (s ++ t)) → length s + left ≤ length (s ++ t) → TurnStands (s ++ t) p.met at (stops (stop k y))) → Follows s gs (stopped_at left k y marked_here)
      by_step (Ok (Some u)) y to f = absurd (q.bare u.place u.len to.0)
      by_step (Ok None) y to f = absurd to
      by_step (Err r) y to f = condemned_follows s n x around v ph gs limit silent p left r q.fits (λ _ t h k. sym (f t h k)) q.cuts
          (λ _ t h k. found_cuts (p.stands t h).reached (q.found t h k)) y

      by : (z : Turn) → TurnsTo x c at e z → ((t : List ℕ) → Whole w (length (s ++ t)) → length s + left ≤ length (s ++ t) → TurnStands (s ++ t) p.met at z) → Follows s gs (turned_by left z marked_here)
      by (on y) to f =
          let z = stands_in c.at c.within in
          subst (λ (d : Cursor). Follows s gs (link n y (group_at (stands_in d.at d.within) cut_place) v (head []))) (sym to.1)
          (next_follows s n y (group_at z cut_place) v gs c p.met (inl silent) p.out p.counts to.1 q.here (to.2 ∙ p.many)
          (outer_kept z cut_place c.at (outer_less z cut_place c.at (omega (arith, q.here, q.later, cut_before w around at p.outer))))
          (λ t h. let g = q.after t h in f t g.0 g.1)
          (λ t h. q.cut t h ∙ ap (λ (k : ℕ). refused (refusal PastEnd k)) (cut_kept z cut_place (length (s ++ t)) h)))
      by (stops z) to f = by_step z.step z.at to f

  -- ---- a value's last octet has come

  -- The definite group around is whole, or it is cut off, after the item as before it.
  value-whole : (z : Within) (tag k m : ℕ) → length s ≤ m → Whole (stands_in (length s) (within_after z tag k)) m → Whole z m
  unfolding within_after
  value-whole Within.Root tag k m h q = tt
  value-whole (Within.Definite channel end) tag k m h q = by (ltb (length s) end) refl q
    where
      by : (b : Bool) → ltb (length s) end ≡ b → Whole (pick b (Within.Definite channel end) Root) m → end ≤ m
      by true e q = q
      by false e q = omega (arith, ltb-false (length s) end e)
  value-whole (Within.Open channel place) tag k m h q = tt

  value_cut : (z : Within) (tag k m : ℕ) → Cut (stands_in (length s) (within_after z tag k)) m → Cut z m
  unfolding within_after
  value_cut Within.Root tag k m q = q
  value_cut (Within.Definite channel end) tag k m q = by (ltb (length s) end) q
    where
      by : (b : Bool) → Cut (pick b (Within.Definite channel end) Root) m → m < end
      by true q = q
      by false q = absurd q
  value_cut (Within.Open channel place) tag k m q = by (ends_open tag k) q
    where
      by : (b : Bool) → Cut (stands_in (length s) (pick b Root (Within.Open channel place))) m → ⊥
      by true q = q
      by false q = q

  -- In a definite group an end is 3 at the group, which is where it was before.
  group_cut : (z : Within) (m : ℕ) → Cut z m → around ≡ cut_at z at around
  group_cut Within.Root m q = absurd q
  group_cut (Within.Definite channel end) m q = refl
  group_cut (Within.Open channel place) m q = absurd q

  module _ (tag : ℕ) (i : Begun s x tag 0) (o : Plainly w tag) where
    abbrev kept : List ℕ
    kept = take kept_limit (drop (at + i.start) s)

    abbrev found : Item
    found = item_found w at tag i.start i.len

    abbrev after_item : Cursor
    after_item = cursor n (within_after w tag (length kept))

    ends-here : at + i.start + i.len ≡ length s
    ends-here = omega (arith, i.ends)

    is_found : (t : List ℕ) → Whole w (length (s ++ t)) → next_of (s ++ t) x.cursor ≡ Ok (Some (found, after_item))
    is_found t h =
        let r = room-begun w (length (s ++ t)) (length s) (longer s t) p.inside in
        next_fits s t x.cursor i.here p.inside h tag i.start i.len i.form (omega (arith, ends-here))
        ∙ found_item w at tag i.start i.len
        ∙ (λ k. Ok (Some (found, cursor ((ends-here ∙ sym p.counts) k) (after_same s t x.standing at tag i.start i.len ends-here w k))))

    has_effect : (t : List ℕ) → effect_of (s ++ t) x.standing found ≡ effect_of kept x.standing (item_at w at tag (length kept))
    has_effect t = effect_same s t x.standing at tag i.start i.len ends-here w o

    pub done_follows : Follows s gs (done_item tag kept (link n x around v ph))
    done_follows =
        turned_follows 0 after_item (effect_of kept x.standing (item_at w at tag (length kept)))
        (record {
          here = p.counts;
          later = i.here;
          fits = inside_less w (length s + 0) (length s) (omega arith) p.inside;
          item = found;
          place = found_place w at tag i.start i.len;
          found = λ t h k. is_found t h;
          effect = has_effect;
          cuts = λ t h k. let z : ⊥ = omega (arith, longer s t) in absurd z;
          bare = λ from long e. effect_bare (s ++ []) x.standing w at tag i.start i.len o (has_effect [] ∙ e);
          after = λ t h. (
            value-whole w tag (length kept) (length (s ++ t)) (longer s t)
                (subst (λ (k : ℕ). Whole (stands_in k (within_after w tag (length kept))) (length (s ++ t))) p.counts h),
            omega (arith, longer s t),
          );
          cut = λ t h.
              let g = value_cut w tag (length kept) (length (s ++ t)) (subst (λ (k : ℕ). Cut (stands_in k (within_after w tag (length kept))) (length (s ++ t))) p.counts h) in
              p.cut t g ∙ ap (λ (q : ℕ). refused (refusal PastEnd q)) (group_cut w (length (s ++ t)) g);
        })

  -- ---- a group begins

  module _ (outside : w ≡ Root) (channel start : ℕ) (here : at < length s) (all : at + start ≡ length s) where
    whole_here : (m : ℕ) → Whole w m
    whole_here m = rw outside tt

    ends_root : (m : ℕ) → ends_in w m ≡ m
    ends_root m = rw outside refl

    stands_here : (t : List ℕ) → Stands (s ++ t) p.met x
    stands_here t = p.stands t (whole_here (length (s ++ t)))

    cut_is : cut_place ≡ at
    cut_is = rw outside refl

    group_effect : (t u : List ℕ) → effect_of t x.standing (Item.Group at channel) ≡ effect_of u x.standing (Item.Group at channel)
    unfolding effect_of
    group_effect t u = refl

    module _ (len : ℕ) (f : form_of (is_inside w) (drop at s) ≡ Ok (Some (ItemHead.Definite channel start len))) where
      abbrev in_group : Cursor
      in_group = cursor n (Within.Definite channel (n + len))

      definite_found : (t : List ℕ) → length s + len ≤ length (s ++ t) → next_of (s ++ t) x.cursor ≡ Ok (Some (Item.Group at channel, in_group))
      definite_found t h =
          let e = all ∙ sym p.counts in
          next_definite s t x.cursor here p.inside (whole_here (length (s ++ t))) channel start len f (omega (arith, ends_root (length (s ++ t))))
          ∙ (λ k. Ok (Some (Item.Group at channel, cursor (e k) (Within.Definite channel (e k + len)))))

      definite_cut : (t : List ℕ) → length (s ++ t) < length s + len → unlimited (s ++ t) ≡ refused (refusal PastEnd cut_place)
      definite_cut t h =
          fault-is (stands_here t)
          (next_definite_past s t x.cursor here p.inside (whole_here (length (s ++ t))) channel start len f (omega (arith, longer s t, ends_root (length (s ++ t)))) (omega (arith, ends_root (length (s ++ t)))))
          ∙ ap (λ (q : ℕ). refused (refusal PastEnd q)) (sym cut_is)

      definite_whole : (m : ℕ) → length s ≤ m → Whole (stands_in n (Within.Definite channel (n + len))) m → length s + len ≤ m
      definite_whole m h q = by (ltb n (n + len)) refl q
        where
          by : (b : Bool) → ltb n (n + len) ≡ b → Whole (pick b (Within.Definite channel (n + len)) Root) m → length s + len ≤ m
          by true e q = omega (arith, p.counts)
          by false e q = omega (arith, p.counts, ltb-false n (n + len) e)

      definite_short : (m : ℕ) → Cut (stands_in n (Within.Definite channel (n + len))) m → m < length s + len
      definite_short m q = by (ltb n (n + len)) q
        where
          by : (b : Bool) → Cut (pick b (Within.Definite channel (n + len)) Root) m → m < length s + len
          by true q = omega (arith, p.counts)
          by false q = absurd q

      pub definite_follows : Follows s gs (group_begins len channel (Within.Definite channel (n + len)) (link n x around v ph))
      unfolding place_at
      definite_follows =
          turned_follows len in_group (effect_of [] x.standing (Item.Group at channel))
          (record {
            here = p.counts;
            later = here;
            fits = rw outside tt;
            item = Item.Group at channel;
            place = refl;
            found = λ t h k. definite_found t k;
            effect = λ t. group_effect (s ++ t) [];
            cuts = λ t h k. definite_cut t k;
            bare = λ from long e. group_bare [] x.standing at channel e;
            after = λ t h. (whole_here (length (s ++ t)), definite_whole (length (s ++ t)) (longer s t) h);
            cut = λ t h. definite_cut t (definite_short (length (s ++ t)) h);
          })

    pub open_follows : form_of (is_inside w) (drop at s) ≡ Ok (Some (ItemHead.Open channel start)) → Follows s gs (group_begins 0 channel (Within.Open channel at) (link n x around v ph))
    unfolding place_at
    open_follows f =
        turned_follows 0 (cursor n (Within.Open channel at)) (effect_of [] x.standing (Item.Group at channel))
        (record {
          here = p.counts;
          later = here;
          fits = rw outside tt;
          item = Item.Group at channel;
          place = refl;
          found = λ t h k. next_open s t x.cursor here p.inside h channel start f
              ∙ (λ k. Ok (Some (Item.Group at channel, cursor ((all ∙ sym p.counts) k) (Within.Open channel at))));
          effect = λ t. group_effect (s ++ t) [];
          cuts = λ t h k. let z : ⊥ = omega (arith, longer s t) in absurd z;
          bare = λ from long e. group_bare [] x.standing at channel e;
          after = λ t h. (whole_here (length (s ++ t)), omega (arith, longer s t));
          cut = λ t h. absurd h;
        })

    -- ---- a waveform begins

    module _ (len : ℕ) (f : form_of (is_inside w) (drop at s) ≡ Ok (Some (ItemHead.Primitive 0x1E start len))) where
      abbrev behind_wave : Cursor
      behind_wave = cursor (n + len) Root

      wave_found : (t : List ℕ) → length s + len ≤ length (s ++ t) → next_of (s ++ t) x.cursor ≡ Ok (Some (Plain at 0x1E n len, behind_wave))
      unfolding item_of
      wave_found t h =
          let e = all ∙ sym p.counts in
          next_fits s t x.cursor here p.inside (whole_here (length (s ++ t))) 0x1E start len f (omega (arith, ends_root (length (s ++ t))))
          ∙ ap (λ (z : Within). item_of at z (Ok (ItemHead.Primitive 0x1E start len))) outside
          ∙ (λ k. Ok (Some (Plain at 0x1E (e k) len, cursor (e k + len) Root)))

      wave_known : n + len ≤ octets_limit → (t : List ℕ) → length s + len ≤ length (s ++ t) → TurnStands (s ++ t) p.met at (effect_turn x behind_wave at (Ok (Effect.Frame n len)))
      unfolding place_at
      wave_known near t h =
          subst (λ (q : Result Effect Fault). TurnStands (s ++ t) p.met at (effect_turn x behind_wave at q)) (effect_frame (s ++ t) x.standing at n len (omega (arith, p.counts)))
          (found_is (stands_here t) (wave_found t h) near)

      wave_cut : (t : List ℕ) → length (s ++ t) < length s + len → unlimited (s ++ t) ≡ refused (refusal PastEnd cut_place)
      wave_cut t h =
          fault-is (stands_here t)
          (next_past s t x.cursor here p.inside (whole_here (length (s ++ t))) 0x1E start len f (omega (arith, longer s t, ends_root (length (s ++ t)))) (omega (arith, ends_root (length (s ++ t)))))
          ∙ ap (λ (q : ℕ). refused (refusal PastEnd q)) (sym cut_is)

      wave_cuts : (t : List ℕ) → length s + len ≤ length (s ++ t) → CutsFrom (suc at) (unlimited (s ++ t))
      wave_cuts t h = found_cuts (stands_here t).reached (wave_found t h)

      -- The frame is taken: its settings are given out.
      taken_follows : (u : Waveform) (y : Stand) → TurnsTo x behind_wave at (Ok (Effect.Frame n len)) (stops (stop (Ok (Some u)) y))
          → ((t : List ℕ) → length s + len ≤ length (s ++ t) → TurnStands (s ++ t) p.met at (stops (stop (Ok (Some u)) y))) → n + len ≤ octets_limit → Follows s gs (link n y cut_place u (waved len first_coming))
      taken_follows u y to known near =
          let filled : length s + len ≤ length (s ++ replicate len 0) = rw (length-append, length-replicate) (omega arith) in
          let good-here = frame_good p.met (frame_by (s ++ replicate len 0) u y) (known (replicate len 0) filled).2 in
          waved_follows s n y cut_place u gs len first_coming
          (record {
            met = p.met;
            here = [];
            out = p.out ∙ sym (append-nil (frames_given p.met));
            counts = p.counts;
            many = to.2 ∙ ap (λ (k : ℕ). k + 1) p.many;
            begun = omega (arith, ap frame_start to.0, p.counts);
            ends = omega (arith, ap frame_start to.0, ap frame_length to.0, p.counts);
            near = omega (arith, p.counts);
            stands = λ t h. ((known t h).2, (known t h).3);
            cuts = wave_cut;
            behind = to.1 ∙ ap (λ (k : ℕ). cursor (k + len) Root) p.counts;
            many-channels = (known (replicate len 0) filled).3.channels;
            good = good-here;
            arrives = λ _. subst (λ (k : ℕ). ArrivesAt s (channels_by u y) k first_coming) (sym p.counts ∙ ap frame_start to.0) (arrives_first s (channels_by u y) good-here);
            coming = λ t h. samples_first (frame_by (s ++ t) u y) good-here.some;
          })

      pub wave_follows : Follows s gs (turned_by len (effect_turn x behind_wave at (Ok (Effect.Frame n len))) marked_here)
      unfolding turned_by stopped_at
      wave_follows = by (effect_turn x behind_wave at (Ok (Effect.Frame n len))) (turns_to x behind_wave at (Ok (Effect.Frame n len))) wave_known
        where
          by_step : (k : Result (Option Waveform) Refusal) (y : Stand) → TurnsTo x behind_wave at (Ok (Effect.Frame n len)) (stops (stop k y))
              → (n + len ≤ octets_limit → (t : List ℕ) → length s + len ≤ length (s ++ t) → TurnStands (s ++ t) p.met at (stops (stop k y))) → Follows s gs (stopped_at len k y marked_here)
          by_step (Ok (Some u)) y to known =
              pick_cases (Follows s gs) (ltb octets_limit (n + len))
              (λ e. waiting_follows s gs (link n y cut_place v ph) len (refusal LongFile 0) limit silent
              (record {
                counts = p.counts;
                cuts = wave_cut;
                sure = λ h t k. let z : ⊥ = omega (arith, ltb-true octets_limit (n + len) e, p.counts) in absurd z;
                passes = λ _ t k. subst (λ (q : ℕ). CutsFrom (suc q) (unlimited (s ++ t))) (sym cut_is) (wave_cuts t k);
              }))
              (λ e. let near = ltb-false octets_limit (n + len) e in taken_follows u y to (known near) near)
          by_step (Ok None) y to known = absurd to
          by_step (Err r) y to known =
              condemned_follows s n x around v ph gs limit silent p len r (rw outside tt) (λ h t _ k. sym (known (omega (arith, p.counts)) t k)) (λ t _ k. wave_cut t k) (λ _ t _ k. wave_cuts t k) y

          by : (z : Turn) → TurnsTo x behind_wave at (Ok (Effect.Frame n len)) z
              → (n + len ≤ octets_limit → (t : List ℕ) → length s + len ≤ length (s ++ t) → TurnStands (s ++ t) p.met at z) → Follows s gs (turned_by len z marked_here)
          by (on y) to known = absurd to.0
          by (stops z) to known = by_step z.step z.at to known

  -- ---- faults of form

  -- What stands there is a fault, for each file that has the group around.
  pub fault_follows : (r : Refusal) → ((t : List ℕ) → Whole w (length (s ++ t)) → next_of (s ++ t) x.cursor ≡ Err r) → Follows s gs (condemned w 0 r marked_here)
  fault_follows r f =
      condemned_follows s n x around v ph gs limit silent p 0 r (inside_less w (length s + 0) (length s) (omega arith) p.inside) (λ _ t h _. fault-is (p.stands t h) (f t h))
      (λ t _ k. let z : ⊥ = omega (arith, longer s t) in absurd z) (λ k. let z : ⊥ = omega (arith, k) in absurd z) x
