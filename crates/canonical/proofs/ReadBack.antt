-- Reading a canonical file gives the recording again.
--     frames_back    the frames of a recording, one after the other
--     read-back      the whole file
-- Assumes nothing.
use Prim.Native.Nat.{ℕ, ◌+◌, ◌≤◌}
use mathlib.Core.Path.{◌≡◌, refl, sym, ◌∙◌, ap, ap₂}
use mathlib.Core.List.{List, [], ◌∷◌, ◌++◌, append_assoc, append-nil}
use native.Mathlib.Omega.{arith}
use borrow.Author.Tests.{le-ltb}
use lib.IntN.{ℤ, pos}
use lib.ListN.{length, drop, length-append}
use Rattle.items.specs.declared.Within.TheVariants.{Root}
use Rattle.items.specs.Walk.{cursor, items_of}
use Rattle.settings.specs.declared.Settings.{Settings}
use Rattle.settings.specs.Settings.{default_table}
use Rattle.definitions.specs.Define.{tagged}
use Rattle.layout.specs.Frame.{Frame}
use Rattle.standing.specs.Standing.{octets_limit, frames_limit}
use Rattle.verdict.specs.Verdict.{State, state, first_state, Verdict, accepted, carried, verdict}
use Rattle.stores.specs.Length.{shortest}
use Rattle.canonical.specs.Recording.{Recorded, recording}
use Rattle.groups.specs.Item.{item_octets}
use Rattle.canonical.specs.Canonical.{frames_octets, canonical}
use Rattle.canonical.proofs.Good.{GoodRecorded, AllRecorded}
use Rattle.canonical.proofs.Known.{usual, start_at, next_end}
use Rattle.canonical.proofs.Steps.{from, ends, Led, plain_led}
use Rattle.canonical.proofs.Effects.{standing, order_is}
use Rattle.canonical.proofs.Recordings.{frame_of, recorded_back}
use Rattle.canonical.proofs.FrameBack.{FrameRead, frame_led}

-- A verdict accepts the frames fs and, behind them, those that the recording rs holds.
pub record Accepts (v : Verdict) (fs : List Frame) (rs : List Recorded) : Type 0 where
  pub frames : List Frame
  pub is : v ≡ accepted (fs ++ frames)
  pub recorded : recording frames ≡ rs

-- One frame, and those behind it.
accepts_more : (s : List ℕ) (x : State) (at : ℕ) (fs : List Frame) (r : Recorded) (rs : List Recorded) (post : List ℕ) → GoodRecorded r → (f : FrameRead s x at fs r post) → Accepts (from s (state (standing f.counted f.sequences f.start f.start) f.table (fs ++ (frame_of r f.place ∷ []))) (cursor f.led.place Root)) (fs ++ (frame_of r f.place ∷ [])) rs → Accepts (from s x (cursor at Root)) fs (r ∷ rs)
unfolding recording
accepts_more s x at fs r rs post good f a =
    let g = frame_of r f.place in
    record {
      frames = g ∷ a.frames;
      is = f.led.same ∙ a.is ∙ ap accepted (append_assoc fs (g ∷ []) a.frames);
      recorded = ap₂ ◌∷◌ (recorded_back r good f.place) a.recorded;
    }

module _ (s : List ℕ) (short : length s ≤ octets_limit) where
  pub frames_back : (rs : List Recorded) → AllRecorded rs → (fs : List Frame) → length fs + length rs ≤ frames_limit → (counted sequences : ℕ) (start continued : ℤ) (table : List Settings) (at : ℕ) → drop at s ≡ frames_octets rs → Accepts (from s (state (standing counted sequences start continued) table fs) (cursor at Root)) fs rs
  unfolding frames_octets recording
  frames_back [] good fs few counted sequences start continued table at e =
      let x = state (standing counted sequences start continued) table fs in
      record { frames = []; is = ends s x (cursor at Root) (next_end s at e) ∙ ap accepted (sym (append-nil fs)); recorded = refl }
  frames_back (r ∷ rs) good fs few counted sequences start continued table at e =
      let f = frame_led s short fs r good.0 (omega arith) counted sequences start continued table at (frames_octets rs) e in
      accepts_more s (state (standing counted sequences start continued) table fs) at fs r rs (frames_octets rs) good.0 f
      (frames_back rs good.1 (fs ++ (frame_of r f.place ∷ [])) (rw length-append (omega arith)) f.counted f.sequences f.start f.start f.table f.led.place f.led.rest)

  -- A file within the limit is its items.
  verdict-is : verdict s ≡ from s first_state (cursor 0 Root)
  unfolding verdict items_of
  verdict-is = rw (le-ltb octets_limit (length s) short)

-- The first item, 01 01 00, changes nothing: a file starts big-endian.
order_led : (s : List ℕ) → length s ≤ octets_limit → (post : List ℕ) → s ≡ item_octets 0x01 (0 ∷ []) ++ post → Led s first_state (cursor 0 Root) first_state post
unfolding usual tagged carried
order_led s short post e =
    plain_led s short first_state first_state 0 0x01 (0 ∷ []) post e refl refl (rw (order_is 0 0 (pos 0) (pos 0) (start_at 0 1)))

canonical-items : (r : Recorded) (rs : List Recorded) → canonical (r ∷ rs) ≡ item_octets 0x01 (0 ∷ []) ++ frames_octets (r ∷ rs)
unfolding canonical item_octets shortest
canonical-items r rs = refl

-- A file is accepted, and holds a recording.
pub record Reads (s : List ℕ) (rs : List Recorded) : Type 0 where
  pub frames : List Frame
  pub is : verdict s ≡ accepted frames
  pub recorded : recording frames ≡ rs

pub read_back : (rs : List Recorded) → AllRecorded rs → length rs ≤ frames_limit → length (canonical rs) ≤ octets_limit → Reads (canonical rs) rs
unfolding canonical frames_octets
read_back [] good few short =
    let a = frames_back [] short [] good [] (omega arith) 0 0 (pos 0) (pos 0) default_table 0 refl in
    record { frames = a.frames; is = verdict-is [] short ∙ a.is; recorded = a.recorded }
read_back (r ∷ rs) good few short =
    let s = canonical (r ∷ rs) in
    let a = order_led s short (frames_octets (r ∷ rs)) (canonical-items r rs) in
    let b = frames_back s short (r ∷ rs) good [] (omega arith) 0 0 (pos 0) (pos 0) default_table a.place a.rest in
    record { frames = b.frames; is = verdict-is s short ∙ a.same ∙ b.is; recorded = b.recorded }
