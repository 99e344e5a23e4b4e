-- A waveform is refused by the first of its rows, 11, 12, 13, which are the tests that it meets.
-- Assumes nothing.
use Rattle.heads.specs.declared.Fault.{Fault}
use Rattle.effects.specs.declared.Effect.{Effect}
use Rattle.std.specs.Prelude.{Result, Err, Ok}
use Rattle.standing.specs.declared.Standing.{Standing}
use Prim.Native.Nat.{ℕ}
use mathlib.Core.Path.{◌≡◌, refl}
use mathlib.Core.List.{List}
use mathlib.Core.Option.{Option, none, some}
use mathlib.Core.Bool.{Bool, true, false, not}
use lib.Dec.{leb}
use lib.ListN.{length, drop}
use Rattle.octets.specs.Pick.{pick}
use Rattle.heads.specs.declared.Refusal.{Refusal}
use Rattle.heads.specs.declared.Fault.TheVariants.{ManyFrames, SampleWidth, StartRange}
use Rattle.items.specs.Walk.{refusal}
use Rattle.layout.specs.Frame.{all_agree}
use Rattle.standing.specs.Standing.{frames_limit}
use Rattle.framing.specs.Framing.{pointer_fits, framed_as}
use Rattle.verdict.specs.Verdict.{State, Outcome, goes, refuses, frame_channels, with_frame, carried}
use Rattle.theorems.specs.Rows.{value_in, item_rows}
use Rattle.theorems.proofs.Due.{first_due}

-- What an outcome gives at a place.
abbrev pub stopped : ℕ → Outcome → Option Refusal
stopped at (goes y) = none
stopped at (refuses n) = some (refusal n at)

module _ (s : List ℕ) (x : State) (at start : ℕ) where
  framed_pick : (long : ℕ) (t : Bool) (n : Fault) (r : Result (ℕ × Standing) Fault) (o : Option Refusal) → stopped at (with_frame s x start long r) ≡ o → stopped at (with_frame s x start long (pick t (Err n) r)) ≡ pick t (some (refusal n at)) o
  unfolding with_frame
  framed_pick long true n r o e = refl
  framed_pick long false n r o e = e

  -- The rows of a waveform are those of an item behind the first ten.
  pub frame_first : (u : List ℕ) → stopped at (carried s x (Ok (Effect.Frame start (length (value_in u))))) ≡ first_due (drop 10 (item_rows x at false 0x1E u))
  unfolding carried framed_as with_frame item_rows
  frame_first u =
      let long = length (value_in u) in
      framed_pick long (leb frames_limit (length x.frames)) ManyFrames _ _
      (framed_pick long (not (all_agree (frame_channels x))) SampleWidth _ _
      (framed_pick long (not (pointer_fits x.standing.start)) StartRange _ none refl))
