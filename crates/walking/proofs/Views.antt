-- Laws of the channels that words hold.
--     view_few, view_none, view_past, view_there    too few words, no frame, no such channel, a channel
--     walked_room, walked_told, walked_view     after a step to a frame the words tell of it, and hold the views of its channels
-- Assumes nothing.
use Rattle.std.specs.Prelude.{Ok, Some}
use mathlib.Core.Path.{◌≡◌, refl, sym, ap, ◌∙◌}
use mathlib.Core.Bool.{Bool, true}
use mathlib.Core.List.{List}
use Prim.Native.Nat.{ℕ, ◌≤◌, ◌<◌}
use native.Mathlib.Omega.{arith}
use borrow.Author.Tests.{lt-ltb, le-ltb, le-leb, lt-leb}
use lib.Dec.{ltb}
use lib.ListN.{length, drop, get_or, length-take}
use lib.Seq.{take-take, get_or-take}
use Rattle.octets.specs.Pick.{pick, both}
use Rattle.heads.specs.declared.Fault.TheVariants.{NoFrame, NoChannel}
use Rattle.heads.specs.Answer.{Answer, answered, refused_as}
use Rattle.settings.specs.Settings.{default_settings, zero_settings}
use Rattle.dated.specs.Dated.{zero_dated, held}
use Rattle.dated.proofs.Refreshed.{held-long, held_at}
use Rattle.layout.specs.Frame.{Frame, sequence_octets, octets_below, channel_in}
use Rattle.view.specs.declared.View.{View}
use Rattle.view.specs.View.{view_of}
use Rattle.words.specs.Words.{records_in, below_in}
use Rattle.walk.specs.declared.Waveform.{Waveform}
use Rattle.walk.specs.Joined.{frame_by}
use Rattle.walk.proofs.Joins.{Counts}
use Rattle.kept.specs.Words.{head_words, holds_head, waveform_in}
use Rattle.walking.specs.Words.{stand_in}
use Rattle.walking.specs.Steps.{Goes}
use Rattle.walking.specs.Views.{view_by, view_kept, view_in}
use Rattle.walking.proofs.Steps.{can_hold}
use Rattle.walking.proofs.Walked.{Walked, walked_counts}

-- ---- by the tests

module _ (u : List ℕ) (channel : ℕ) where
  abbrev answer : Bool → Bool → Bool → Answer View
  answer a b c = pick (both a b) (pick c (answered (view_kept u channel)) (refused_as NoChannel 0)) (refused_as NoFrame 0)

  by_tests : {a b c : Bool} → holds_head u ≡ a → ltb 0 (waveform_in u).channels ≡ b → ltb channel (waveform_in u).channels ≡ c → answer a b c ≡ view_in u channel
  unfolding view_in
  by_tests p q r = λ i. answer (sym p i) (sym q i) (sym r i)

  pub view_few : length u < head_words → refused_as NoFrame 0 ≡ view_in u channel
  view_few h = by_tests (lt-leb head_words (length u) h) refl refl

  module _ (room : head_words ≤ length u) where
    there : holds_head u ≡ true
    there = le-leb head_words (length u) room

    pub view_none : (waveform_in u).channels ≡ 0 → refused_as NoFrame 0 ≡ view_in u channel
    view_none e = by_tests there (le-ltb 0 (waveform_in u).channels (omega arith)) refl

    module _ (some : 0 < (waveform_in u).channels) where
      has : ltb 0 (waveform_in u).channels ≡ true
      has = lt-ltb 0 (waveform_in u).channels some

      pub view_past : (waveform_in u).channels ≤ channel → refused_as NoChannel 0 ≡ view_in u channel
      view_past h = by_tests there has (le-ltb channel (waveform_in u).channels h)

      pub view_there : channel < (waveform_in u).channels → answered (view_kept u channel) ≡ view_in u channel
      view_there h = by_tests there has (lt-ltb channel (waveform_in u).channels h)

-- ---- after a step to a frame

module _ {s : List ℕ} {met : List Frame} {u v : List ℕ} {x : Waveform} (p : Walked s met u) (g : Goes s u (Ok (Some x)) v) where
  abbrev rest : List ℕ
  rest = drop head_words v

  abbrev frame : Frame
  frame = frame_by s x (stand_in v)

  counts : Counts x frame
  counts = walked_counts p g

  pub walked_room : head_words ≤ length v
  walked_room = omega (arith, p.long, g.long)

  pub walked_told : waveform_in v ≡ x
  walked_told = g.tells ∙ can_hold u x (waveform_in u) (omega (arith, p.long))

  module _ (k : ℕ) (h : k < x.channels) where
    below-there : below_in rest k ≡ octets_below k frame.channels
    unfolding octets_below
    below-there = g.below k h ∙ ap sequence_octets (sym (take-take k x.channels (held (records_in rest)) (omega arith)))

    few : k < length (records_in rest)
    few =
        let l = length-take x.channels (held (records_in rest)) in
        omega (arith, h, counts.channels, l, held-long (records_in rest))

    settings-there : (get_or (records_in rest) k zero_dated).settings ≡ channel_in k frame.channels
    settings-there = sym (get_or-take x.channels (held (records_in rest)) k zero_settings h ∙ held_at k (records_in rest) zero_dated zero_settings few)

    shown : pick (ltb k (length frame.channels)) (channel_in k frame.channels) default_settings ≡ channel_in k frame.channels
    shown = ap (λ (t : Bool). pick t (channel_in k frame.channels) default_settings) (lt-ltb k (length frame.channels) (omega (arith, h, counts.channels)))

    kept : view_kept v k ≡ view_of k frame
    unfolding view_of
    kept =
        (λ i. view_by (walked_told i) (below-there i) (settings-there i))
        ∙ (λ i. record {
          start = x.start;
          channels = counts.channels i;
          sequences = x.sequences;
          little = x.little;
          place = x.place;
          long = counts.long i;
          octets = counts.octets i;
          below = octets_below k frame.channels;
          settings = sym shown i;
        })

    -- The words hold the views of the frame's channels.
    pub walked_view : view_in v k ≡ answered (view_of k frame)
    walked_view =
        let n : (waveform_in v).channels ≡ x.channels = ap (λ (y : Waveform). y.channels) walked_told in
        sym (view_there v k walked_room (omega (arith, h, n)) (omega (arith, h, n))) ∙ ap answered kept
