-- Laws of the frame that words hold.
--     frame-few, frame-none, frame-held, frame-room, frame-some    the test whether words hold a frame
--     sweep_none, sweep_held    the answer
-- Assumes nothing.
use mathlib.Core.Path.{◌≡◌, sym, ap}
use mathlib.Core.Bool.{Bool, true, false}
use mathlib.Core.List.{List}
use Prim.Native.Nat.{ℕ, ◌≤◌, ◌<◌}
use native.Mathlib.Omega.{arith}
use borrow.Author.Tests.{ltb-true, leb-true, lt-ltb, le-ltb, le-leb, lt-leb}
use lib.Dec.{ltb, leb}
use lib.ListN.{length, drop}
use Rattle.octets.specs.Pick.{pick}
use Rattle.octets.proofs.Pick.{both_split}
use Rattle.heads.specs.declared.Fault.TheVariants.{NoFrame}
use Rattle.heads.specs.Answer.{refused_as}
use Rattle.words.specs.Words.{records_held}
use Rattle.strides.specs.Channels.{swept_of}
use Rattle.kept.specs.Words.{head_words, waveform_in}
use Rattle.sweep.specs.Sweep.{holds_frame, spreads_in, sweep_in}

module _ (u : List ℕ) where
  pub frame-few : length u < head_words → false ≡ holds_frame u
  unfolding holds_frame
  frame-few h = simp (lt-leb _ _ h)

  pub frame-none : head_words ≤ length u → (waveform_in u).channels ≡ 0 → false ≡ holds_frame u
  unfolding holds_frame
  frame-none h e = let z : (waveform_in u).channels ≤ 0 = omega arith in simp (le-leb _ _ h, le-ltb _ _ z)

  pub frame-held : head_words ≤ length u → ((waveform_in u).channels ≡ 0 → ⊥) → leb (waveform_in u).channels (records_held (drop head_words u)) ≡ holds_frame u
  unfolding holds_frame
  frame-held h e = let z : 0 < (waveform_in u).channels = omega arith in simp (le-leb _ _ h, lt-ltb _ _ z)

  pub frame-room : holds_frame u ≡ true → head_words ≤ length u
  unfolding holds_frame
  frame-room e = leb-true _ _ (both_split (leb head_words (length u)) _ e).0

  pub frame-some : holds_frame u ≡ true → 0 < (waveform_in u).channels
  unfolding holds_frame
  frame-some e = ltb-true _ _ (both_split (ltb 0 (waveform_in u).channels) _ (both_split (leb head_words (length u)) _ e).1).0

module _ (s u : List ℕ) (room : ℕ) where
  by_test : {b : Bool} → holds_frame u ≡ b → pick b (swept_of s room (spreads_in u)) (refused_as NoFrame 0) ≡ sweep_in s u room
  unfolding sweep_in
  by_test e = ap (λ (b : Bool). pick b (swept_of s room (spreads_in u)) (refused_as NoFrame 0)) (sym e)

  pub sweep_none : holds_frame u ≡ false → refused_as NoFrame 0 ≡ sweep_in s u room
  sweep_none e = by_test e

  pub sweep_held : holds_frame u ≡ true → swept_of s room (spreads_in u) ≡ sweep_in s u room
  sweep_held e = by_test e
