-- All samples there of a frame, read by the words of a walk, are those that the questions tell.
--     same-frames    the frames of an accepted file are its own
--     held-there     words that tell of a frame of the file have a record for each of its channels
--     swept_whole    what is read of the frame
-- Assumes nothing.
use Rattle.std.specs.Prelude.{Ok, Some}
use mathlib.Core.Path.{◌≡◌, refl, sym, ap, ◌∙◌}
use mathlib.Core.Bool.{Bool, true}
use mathlib.Core.List.{List, ◌++◌}
use Prim.Native.Nat.{ℕ, zero, suc, ◌+◌, ◌≤◌, ◌<◌}
use native.Mathlib.Omega.{arith}
use borrow.Author.Tests.{le-leb}
use lib.ListN.{length, take, drop, get_or, length-take}
use Rattle.octets.specs.Pick.{pick}
use Rattle.heads.specs.declared.Fault.TheVariants.{NoFrame}
use Rattle.heads.specs.Answer.{answered, refused_as}
use Rattle.layout.specs.Frame.{Frame}
use Rattle.there.specs.There.{there_in}
use Rattle.laid.specs.Laid.{sample_bits}
use Rattle.dated.specs.Dated.{held}
use Rattle.dated.proofs.Refreshed.{held-long}
use Rattle.words.specs.Words.{records_in, records_held}
use Rattle.words.proofs.Laws.{records-long}
use Rattle.spread.specs.declared.Spread.{Spread}
use Rattle.spread.specs.Spread.{there_spread, lies_spread, bits_spread}
use Rattle.strides.specs.Laying.{bits_from}
use Rattle.strides.specs.Channels.{spread_at, spreads_from, all_lie, swept_bits, swept_of}
use Rattle.strides.proofs.Walks.{bits-same}
use Rattle.view.specs.declared.View.{View}
use Rattle.view.specs.View.{view_of, lies_in, place_seen}
use Rattle.verdict.specs.Verdict.{accepted, verdict}
use Rattle.pass.specs.Scan.{zero_frame}
use Rattle.reader.specs.Answer.{asked, seen_of}
use Rattle.reader.proofs.Order.{asked_found}
use Rattle.reader.proofs.Answers.{Located, located, frame_in, there_seen_lem, located_lies, bits_seen_lem}
use Rattle.canonical.specs.Write.{frames_in}
use Rattle.walk.specs.declared.Waveform.{Waveform}
use Rattle.kept.specs.Words.{head_words, waveform_in}
use Rattle.walking.specs.Steps.{Goes}
use Rattle.walking.specs.Views.{view_kept, view_in}
use Rattle.walking.proofs.Walked.{Walked, walked_counts}
use Rattle.walking.proofs.Views.{walked_room, walked_told, view_there}
use Rattle.walking.proofs.Told.{walked_some}
use Rattle.sweep.specs.Sweep.{holds_frame, sequences_by, spreads_in, sweep_in}
use Rattle.sweep.proofs.Sweeping.{frame-room, frame-some, frame-held, sweep_held}
use Rattle.theorems.specs.Walks.{whole_from, whole_in}

pub same-frames : {fs gs : List Frame} → accepted fs ≡ accepted gs → fs ≡ gs
unfolding frames_in
same-frames e = ap frames_in e

-- ---- the channels of a frame of the file

pub held-there : {s : List ℕ} {met : List Frame} {u v : List ℕ} {x : Waveform} → Walked s met u → Goes s u (Ok (Some x)) v → holds_frame v ≡ true
held-there {v = v} {x = x} p g =
    let n : (waveform_in v).channels ≡ x.channels = ap (λ (y : Waveform). y.channels) (walked_told p g) in
    let long = (walked_counts p g).channels ∙ length-take x.channels (held (records_in (drop head_words v))) in
    let all = held-long (records_in (drop head_words v)) ∙ records-long (drop head_words v) in
    sym (frame-held v (walked_room p g) (λ e. omega (arith, walked_some p g, (walked_counts p g).channels, n, e))) ∙ le-leb (waveform_in v).channels (records_held (drop head_words v)) (omega (arith, n, long, all))

module _ (s : List ℕ) (i : ℕ) (w : List ℕ) (there : holds_frame w ≡ true) (same : (c : ℕ) → view_in w c ≡ seen_of s i c) where
  abbrev many : ℕ
  many = (waveform_in w).channels

  abbrev spread : ℕ → Spread
  spread c = spread_at (drop head_words w) (sequences_by (waveform_in w)) c

  some : 0 < many
  some = frame-some w there

  found : (c : ℕ) → c < many → Located s i c (view_kept w c)
  found c h = located s i c (view_kept w c) {r = Ok (view_kept w c)} (view_there w c (frame-room w there) some h ∙ same c) refl

  first : Located s i 0 (view_kept w 0)
  first = found 0 some

  abbrev frame : Frame
  frame = frame_in first

  same-frame : (c : ℕ) (h : c < many) → frame_in (found c h) ≡ frame
  same-frame c h = ap (λ (fs : List Frame). get_or fs i zero_frame) (same-frames (sym (found c h).verdict_is ∙ first.verdict_is))

  lies : (c : ℕ) → c < many → lies_spread (length s) (spread c) ≡ true
  unfolding lies_in
  lies c h = located_lies (found c h)

  count : (c : ℕ) → c < many → there_spread (spread c) ≡ there_in c frame
  count c h = there_seen_lem (found c h) ∙ ap (there_in c) (same-frame c h)

  bits : (c : ℕ) → c < many → bits_from (bits_spread s (spread c)) 0 (there_spread (spread c)) ≡ bits_from (sample_bits frame c) 0 (there_in c frame)
  unfolding place_seen
  bits c h =
      bits-same (bits_spread s (spread c)) (sample_bits frame c) 0 0 (there_spread (spread c)) (λ j l. bits_seen_lem (found c h) {n = 0 + j} (omega arith) ∙ ap (λ (f : Frame). sample_bits f c (0 + j)) (same-frame c h))
      ∙ ap (bits_from (sample_bits frame c) 0) (count c h)

  all_lie_lem : (k n : ℕ) → k + n ≤ many → all_lie (length s) (spreads_from (drop head_words w) (sequences_by (waveform_in w)) k n) ≡ true
  unfolding spreads_from all_lie
  all_lie_lem k zero h = refl
  all_lie_lem k (suc n) h = simp (lies k (omega arith), all_lie_lem (suc k) n (omega arith))

  whole : (k n : ℕ) → k + n ≤ many → swept_bits s (spreads_from (drop head_words w) (sequences_by (waveform_in w)) k n) ≡ whole_from frame k n
  unfolding spreads_from swept_bits whole_from
  whole k zero h = refl
  whole k (suc n) h = let now = bits k (omega arith) in let rest = whole (suc k) n (omega arith) in λ j. now j ++ rest j

  channels-there : many ≡ length frame.channels
  unfolding view_of
  channels-there = ap (λ (v : View). v.channels) first.view

  pub swept_whole : (room : ℕ) → sweep_in s w room ≡ asked (whole_in room) i 0 (verdict s)
  unfolding swept_of
  swept_whole room =
      let x : swept_bits s (spreads_in w) ≡ whole_from frame 0 (length frame.channels) = whole 0 many (omega arith) ∙ ap (whole_from frame 0) channels-there in
      sym (sweep_held s w room there)
      ∙ ap (λ (b : Bool). pick b (answered (take room (swept_bits s (spreads_in w)))) (refused_as NoFrame 0)) (all_lie_lem 0 many (omega arith))
      ∙ ap (λ (y : List ℕ). answered (take room y)) x
      ∙ sym (asked_found i 0 first.verdict_is first.frame_in first.channel_is (whole_in room))
