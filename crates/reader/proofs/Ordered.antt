-- Where the frames of an accepted file lie.
--     accepted-small     the file is no longer than the limit
--     accepted-few       its frames are no more than the limit
--     every_lies, accepted-lies    each waveform lies in the file, and its samples have octets
--     accepted_ordered   no frame starts before the end of one before it
--     reached_lying      all this where a file's items lead, however it goes on
-- Assumes nothing.
use mathlib.Core.Path.{◌≡◌, refl, ◌∙◌, subst}
use mathlib.Core.List.{List, [], ◌∷◌, ◌++◌}
use mathlib.Core.Bool.{true}
use Prim.Native.Nat.{ℕ, ◌+◌, ◌≤◌, ◌<◌}
use native.Mathlib.Decide.{dec_lt}
use native.Mathlib.Omega.{arith}
use lib.ListN.{length, get_or, take, drop, length-take, length-drop, length-append, get_or-append}
use lib.Seq.{get_or_at}
use Rattle.items.specs.declared.Item.{Item}
use Rattle.items.specs.declared.Cursor.{Cursor}
use Rattle.items.proofs.Walks.{FoundAt, ItemLies, next_found}
use Rattle.settings.specs.declared.Settings.{Settings}
use Rattle.settings.specs.Settings.{channel_limit}
use Rattle.layout.specs.Frame.{Frame, sequence_octets, all_agree, channel_in}
use Rattle.there.specs.There.{Wide}
use Rattle.standing.specs.declared.Standing.{Standing}
use Rattle.effects.specs.Effects.{value_at}
use Rattle.standing.specs.Standing.{octets_limit, frames_limit}
use Rattle.framing.specs.Framing.{pointer_fits}
use Rattle.verdict.specs.Verdict.{State, state, first_state, frame_channels, frame_at, accepted, verdict}
use Rattle.pass.specs.Scan.{zero_frame}
use Rattle.verdict.specs.Reached.{Reached}
use Rattle.verdict.proofs.Keeps.{Kept, Keeps, first_cursor, accepted_by, accepted-kept, reached_keeps}
use Rattle.verdict.proofs.Steps.{Waveform, TakenBy, ItemStep, passes, stands, resets, changes, sets, frames, meaning_steps}
use Rattle.verdict.proofs.Every.{Every, every_at, every_snoc, every_imp}
use Rattle.verdict.proofs.Bounds.{Bounded, bounded_first, bounded_step, frame-channels, channels-wide, channels-some}

-- A frame whose waveform lies in the file, with 1 to 256 channels, whose samples have octets.
pub record Lies (s : List ℕ) (f : Frame) : Type 0 where
  pub wide : Wide f.channels
  pub inside : f.place + length f.waveform ≤ length s
  pub octets : f.waveform ≡ take (length f.waveform) (drop f.place s)
  pub some : 0 < length f.channels
  pub few : length f.channels ≤ channel_limit
  pub pointer : pointer_fits f.start ≡ true

-- Each channel's blocks have samples.
abbrev pub Blocked : Frame → Type 0
Blocked f = (c : ℕ) → c < length f.channels → 0 < (channel_in c f.channels).block

-- The place behind a frame's waveform.
abbrev pub waveform_end : Frame → ℕ
waveform_end f = f.place + length f.waveform

-- No frame starts before the end of one before it.
abbrev pub InOrder : List Frame → Type 0
InOrder fs = (i j : ℕ) → i < j → j < length fs → waveform_end (get_or fs i zero_frame) ≤ (get_or fs j zero_frame).place

-- What every item keeps.
pub record Lying (s : List ℕ) (x : State) (c : Cursor) : Type 0 where
  pub bounded : Bounded x
  pub lies : Every (Lies s) x.frames
  pub blocks : Every Blocked x.frames
  pub behind : Every (λ f. waveform_end f ≤ c.at) x.frames
  pub order : InOrder x.frames

-- ---- one frame more

order_snoc : (fs : List Frame) (f : Frame) → InOrder fs → Every (λ g. waveform_end g ≤ f.place) fs → InOrder (fs ++ (f ∷ []))
order_snoc fs f o e i j h l =
    let n : length (fs ++ (f ∷ [])) ≡ length fs + 1 = length-append fs (f ∷ []) in
    let first : get_or (fs ++ (f ∷ [])) i zero_frame ≡ get_or fs i zero_frame = get_or-append fs (f ∷ []) zero_frame i (omega arith) in
    by first (dec_lt j (length fs))
  where
    by : get_or (fs ++ (f ∷ [])) i zero_frame ≡ get_or fs i zero_frame → Dec (j < length fs) → waveform_end (get_or (fs ++ (f ∷ [])) i zero_frame) ≤ (get_or (fs ++ (f ∷ [])) j zero_frame).place
    by first (yes k) = rw (first, get_or-append fs (f ∷ []) zero_frame j k) (o i j h k)
    by first (no k) =
        let n : length (fs ++ (f ∷ [])) ≡ length fs + 1 = length-append fs (f ∷ []) in
        rw (first, get_or_at fs f [] zero_frame j (omega arith)) (every_at (λ g. waveform_end g ≤ f.place) fs e zero_frame i (omega arith))

module _ (s : List ℕ) (x : State) (c d : Cursor) (p : Lying s x c) where
  -- An item that gives no frame.
  moved : {st : Standing} {table : List Settings} → Bounded (state st table x.frames) → c.at < d.at → Lying s (state st table x.frames) d
  moved b l =
      record {
        bounded = b;
        lies = p.lies;
        blocks = p.blocks;
        behind = every_imp (λ f. waveform_end f ≤ c.at) (λ f. waveform_end f ≤ d.at) (λ f q. omega arith) x.frames p.behind;
        order = p.order;
      }

  -- A frame.
  module _ (start long n : ℕ) (y : Standing) (later : c.at < start) (ends : start + long ≡ d.at) (inside : d.at ≤ length s)
      (t : TakenBy (length x.frames) x.standing (all_agree (frame_channels x)) (sequence_octets (frame_channels x)) long n y) where
    abbrev new : Frame
    new = frame_at s x start long n

    long-is : length (value_at s start long) ≡ long
    long-is = simp (length-take, length-drop) (omega arith)

    new_lies : Lies s new
    new_lies =
        let k = frame-channels x p.bounded in
        record {
          wide = channels-wide x p.bounded;
          inside = rw long-is (omega arith);
          octets = rw long-is;
          some = k.0;
          few = k.1;
          pointer = t.pointer;
        }

    framed : Bounded (state y x.channels (x.frames ++ (new ∷ []))) → Lying s (state y x.channels (x.frames ++ (new ∷ []))) d
    framed b =
        record {
          bounded = b;
          lies = every_snoc (Lies s) x.frames new p.lies new_lies;
          blocks = every_snoc Blocked x.frames new p.blocks (channels-some x p.bounded);
          behind = every_snoc (λ f. waveform_end f ≤ d.at) x.frames new (every_imp (λ f. waveform_end f ≤ c.at) (λ f. waveform_end f ≤ d.at) (λ f q. omega arith) x.frames p.behind) (rw long-is (omega arith));
          order = order_snoc x.frames new p.order (every_imp (λ f. waveform_end f ≤ c.at) (λ f. waveform_end f ≤ start) (λ f q. omega arith) x.frames p.behind);
        }

-- ---- all items

-- The value of a waveform is as long as its item says.
value-long : (s : List ℕ) (start len long : ℕ) → start + len ≤ length s → long ≡ length (value_at s start len) → long ≡ len
value-long s start len long h e = e ∙ simp (length-take, length-drop) (omega arith)

module _ (s : List ℕ) where
  waveform-lies : (c : Cursor) (i : Item) (d : Cursor) (start long : ℕ) → Waveform s i start long → FoundAt (length s) c.at i d → (c.at < start) × (start + long ≡ d.at)
  waveform-lies c i d start long w f =
      let l = subst (ItemLies c.at d.at) w.item f.lies in
      let e = value-long s start w.len long (omega (arith, l.2, f.inside)) w.counts in
      (l.1, omega (arith, l.2))

  lying_step : (x : State) (c : Cursor) (i : Item) (d : Cursor) (y : State) → Lying s x c → FoundAt (length s) c.at i d → Bounded y → ItemStep s x i y → Lying s y d
  lying_step x c i d _ p f b passes = moved s x c d p b f.later
  lying_step x c i d _ p f b (stands y h r q) = moved s x c d p b f.later
  lying_step x c i d _ p f b (resets y h r q) = moved s x c d p b f.later
  lying_step x c i d _ p f b (changes ch e) = moved s x c d p b f.later
  lying_step x c i d _ p f b (sets channel ch e) = moved s x c d p b f.later
  lying_step x c i d _ p f b (frames start long n y w t) =
      let l = waveform-lies c i d start long w f in
      framed s x c d p start long n y l.0 l.1 f.inside t b

  lying_keeps : Keeps s (Lying s)
  lying_keeps x c i d y p e f =
      let t = meaning_steps s x i y f in
      lying_step x c i d y p (next_found s c refl e) (bounded_step s x i y p.bounded t) t

  lying_first : Lying s first_state first_cursor
  lying_first = record { bounded = bounded_first s; lies = tt; blocks = tt; behind = tt; order = λ i j h l. let z : ⊥ = omega arith in absurd z }

-- What holds where a file's items lead, however it goes on.
pub reached_lying : {s : List ℕ} {x : State} {c : Cursor} → Reached s x c → Lying s x c
reached_lying {s} r = reached_keeps s (Lying s) (lying_keeps s) (lying_first s) r

module _ (s : List ℕ) (fs : List Frame) (e : verdict s ≡ accepted fs) where
  kept : Kept (Lying s) fs
  kept = accepted-kept s (Lying s) (lying_keeps s) (lying_first s) fs e

  pub accepted-small : length s ≤ octets_limit
  accepted-small = (accepted_by s fs e).0

  pub accepted-few : length fs ≤ frames_limit
  accepted-few = rw kept.frames at kept.holds.bounded.few

  pub every_lies : Every (Lies s) fs
  every_lies = rw kept.frames at kept.holds.lies

  pub accepted-lies : (i : ℕ) → i < length fs → Lies s (get_or fs i zero_frame)
  accepted-lies i h = every_at (Lies s) fs every_lies zero_frame i h

  pub accepted_ordered : (i j : ℕ) → i < j → j < length fs → (get_or fs i zero_frame).place + length (get_or fs i zero_frame).waveform ≤ (get_or fs j zero_frame).place
  accepted_ordered = rw kept.frames at kept.holds.order
