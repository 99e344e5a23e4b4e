-- Laws of a frame where the file's items lead: what a reader computes of it is document 01's rule.
--     frame-carried      what its waveform gives
--     count-few, counts_there, groups-small    its channels are few, and their groups take little
--     waveform-small     a file within the limit has no waveform that is longer
--     taken_root         a frame that is taken leaves the root settings
-- Assumes nothing.
use Rattle.heads.specs.declared.Fault.{Fault}
use Rattle.effects.specs.declared.Effect.{Effect}
use Rattle.std.specs.Prelude.{Result, Ok}
use mathlib.Core.Path.{◌≡◌, refl, sym, ap, ◌∙◌}
use mathlib.Core.List.{List}
use Prim.Native.Nat.{ℕ, ◌*◌, ◌≤◌, ◌<◌}
use native.Mathlib.Omega.{arith}
use lib.ListN.{length, take}
use lib.Seq.{length-take-le}
use Rattle.items.specs.declared.Item.{Item}
use Rattle.items.specs.declared.Cursor.{Cursor}
use Rattle.settings.specs.declared.Settings.{Settings}
use Rattle.settings.specs.Settings.{channel_limit}
use Rattle.layout.specs.declared.Layout.{Layout}
use Rattle.layout.specs.Frame.{Frame}
use Rattle.layout.specs.Measure.{layout_of}
use Rattle.layout.proofs.Laws.{groups-few}
use Rattle.standing.specs.declared.Standing.{Standing}
use Rattle.standing.specs.Standing.{octets_limit}
use Rattle.effects.specs.Effects.{effect_of}
use Rattle.framing.specs.Framing.{channels_of, framed_as}
use Rattle.framing.specs.AnyNumbers.{framed_by}
use Rattle.framing.proofs.Framings.{framed_same}
use Rattle.verdict.specs.Verdict.{State, state, with_frame, carried}
use Rattle.verdict.specs.Reached.{Reached}
use Rattle.verdict.proofs.Steps.{TakenBy, taken_found, waveform_found, waveform_short}
use Rattle.verdict.proofs.Bounds.{Bounded, reached_bounded, channels-between, root_small, octets-some}

-- A file within the limit has no waveform that is longer.
pub waveform-small : (s : List ℕ) (st : Standing) (i : Item) {start len : ℕ} → length s ≤ octets_limit → Ok (Effect.Frame start len) ≡ effect_of s st i → len ≤ octets_limit
waveform-small s st i long a = omega (arith, waveform_short s (waveform_found s st i a refl))

-- What is known of a frame where the file's items lead: l is the layout of its channels.
module _ {s : List ℕ} {table : List Settings} {c : Cursor} {st : Standing} {met : List Frame} (reached : Reached s (state st table met) c)
    {frames : ℕ} (counts : frames ≡ length met) (channel : ℕ) (l : Layout) (el : l ≡ layout_of channel (take (channels_of st.counted) table)) where
  abbrev framed_state : State
  framed_state = state st table met

  abbrev count : ℕ
  count = channels_of st.counted

  bounded : Bounded framed_state
  bounded = reached_bounded s reached

  octets-here : 0 < l.octets
  unfolding layout_of
  octets-here = rw el (octets-some framed_state bounded)

  -- A file's frame, of which `frame_of` answers document 01's rule.
  framed_here : (len : ℕ) → len ≤ octets_limit → framed_by frames st l.agree l.octets len ≡ framed_as frames st l.agree l.octets len
  framed_here len small = framed_same frames st l.agree l.octets len octets-here small (root_small framed_state bounded)

  -- What the frame's waveform gives, as the pass computes it.
  pub frame-carried : (i : Item) (start len : ℕ) {r f : Result (ℕ × Standing) Fault} → len ≤ octets_limit → Ok (Effect.Frame start len) ≡ effect_of s st i → r ≡ framed_by frames st l.agree l.octets len → r ≡ f → carried s framed_state (effect_of s st i) ≡ with_frame s framed_state start len f
  unfolding carried layout_of
  frame-carried i start len small a u v =
      ap (carried s framed_state) (sym a)
      ∙ ap (with_frame s framed_state start len) (sym (rw (el, counts) at (u ∙ framed_here len small)) ∙ v)

  pub count-few : count ≤ channel_limit
  count-few = (channels-between st.counted bounded.counted).1

  pub counts_there : length (take count table) ≡ count
  counts_there = length-take-le count table (omega (arith, count-few, bounded.full))

  -- What the waveform and its groups take is small.
  pub groups-small : l.groups ≤ channel_limit * 64
  unfolding layout_of
  groups-small = rw el (omega (arith, groups-few 0 (take count table), counts_there, count-few))

  module _ (i : Item) {start len sequences : ℕ} {x : Standing} {r : Result (ℕ × Standing) Fault} (small : len ≤ octets_limit)
      (ee : Ok (Effect.Frame start len) ≡ effect_of s st i) (er : r ≡ framed_by frames st l.agree l.octets len) (fr : r ≡ Ok (sequences, x)) where
    taken : TakenBy frames st l.agree l.octets len sequences x
    taken = taken_found frames st l.agree l.octets len (er ∙ framed_here len small) fr

    pub taken_root : x.root ≡ st.root
    taken_root = ap (λ (y : Standing). y.root) taken.after
