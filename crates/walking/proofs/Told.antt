-- What words tell of a frame is what the questions answer.
--     walked_is, walked_some    the frame is one of the file's, and has a channel
--     walked_seen     the channel of the frame that the last step told of, for any channel number
-- Assumes nothing.
use Rattle.std.specs.Prelude.{Ok, Some}
use mathlib.Core.Path.{◌≡◌, sym, ap, ◌∙◌}
use mathlib.Core.Bool.{Bool, true}
use mathlib.Core.List.{List, [], ◌∷◌, ◌++◌, append_assoc}
use Prim.Native.Nat.{ℕ, suc, ◌+◌, ◌<◌}
use native.Mathlib.Omega.{arith}
use native.Mathlib.Decide.{dec_lt}
use borrow.Author.Tests.{lt-ltb, le-ltb}
use lib.Dec.{ltb}
use lib.ListN.{length, get_or, length-append}
use lib.Seq.{get_or-append_seam}
use Rattle.octets.specs.Pick.{pick}
use Rattle.heads.specs.declared.Fault.TheVariants.{NoFrame, NoChannel}
use Rattle.heads.specs.Answer.{Answer, answered, refused_as}
use Rattle.layout.specs.Frame.{Frame}
use Rattle.view.specs.declared.View.{View}
use Rattle.view.specs.View.{view_of}
use Rattle.pass.specs.Scan.{zero_frame}
use Rattle.reader.specs.Answer.{asked, seen_of}
use Rattle.reader.proofs.Ordered.{accepted-lies}
use Rattle.walk.specs.declared.Waveform.{Waveform}
use Rattle.walk.specs.Joined.{frame_by}
use Rattle.walk.proofs.Joins.{reaches_grown}
use Rattle.kept.specs.Words.{waveform_in}
use Rattle.walking.specs.Words.{stand_in}
use Rattle.walking.specs.Steps.{Goes}
use Rattle.walking.specs.Views.{view_in}
use Rattle.walking.proofs.Walked.{Walked, walked_frame, walked_counts}
use Rattle.walking.proofs.Views.{walked_room, walked_told, view_past, walked_view}

module _ {s : List ℕ} {met : List Frame} {u v : List ℕ} {x : Waveform} (p : Walked s met u) (g : Goes s u (Ok (Some x)) v) where
  abbrev frame : Frame
  frame = frame_by s x (stand_in v)

  abbrev all : List Frame
  all = p.all

  -- The frame is the file's frame of that number.
  there : (rest : List Frame) × (all ≡ met ++ frame ∷ rest)
  there =
      let r = reaches_grown (walked_frame p g).reaches p.is in
      (r.0, r.1 ∙ append_assoc met (frame ∷ []) r.0)

  below_all : length met < length all
  below_all =
      let l : length all ≡ length met + suc (length there.0) = ap length there.1 ∙ length-append met (frame ∷ there.0) in
      omega arith

  pub walked_is : get_or p.all (length met) zero_frame ≡ frame_by s x (stand_in v)
  walked_is = ap (λ (fs : List Frame). get_or fs (length met) zero_frame) there.1 ∙ get_or-append_seam met frame there.0 zero_frame

  -- It has a channel.
  pub walked_some : 0 < length frame.channels
  walked_some = let l = accepted-lies s all p.is (length met) below_all in omega (arith, ap (λ (f : Frame). length f.channels) walked_is, l.some)

  module _ (c : ℕ) where
    -- What the question answers of the frame.
    abbrev answer : Bool → Bool → Frame → Answer View
    answer a b f = pick a (pick b (answered (view_of c f)) (refused_as NoChannel 0)) (refused_as NoFrame 0)

    seen : {b : Bool} → ltb c (length frame.channels) ≡ b → answer true b frame ≡ seen_of s (length met) c
    unfolding seen_of
    seen {b} e =
        sym
        (ap (asked (λ f. answered (view_of c f)) (length met) c) p.is
        ∙ ap (λ (f : Frame). answer (ltb (length met) (length all)) (ltb c (length f.channels)) f) walked_is
        ∙ (λ i. answer (lt-ltb (length met) (length all) below_all i) (e i) frame))

    pub walked_seen : view_in v c ≡ seen_of s (length met) c
    walked_seen = by (dec_lt c (length frame.channels))
      where
        counts : (waveform_in v).channels ≡ length frame.channels
        counts = ap (λ (y : Waveform). y.channels) (walked_told p g) ∙ (walked_counts p g).channels

        by : Dec (c < length frame.channels) → view_in v c ≡ seen_of s (length met) c
        by (yes h) = walked_view p g c (omega (arith, h, (walked_counts p g).channels)) ∙ seen (lt-ltb c (length frame.channels) h)
        by (no h) =
            sym (view_past v c (walked_room p g) (omega (arith, walked_some, counts)) (omega (arith, counts)))
            ∙ seen (le-ltb c (length frame.channels) (omega arith))
