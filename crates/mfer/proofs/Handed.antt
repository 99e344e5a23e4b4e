-- Laws of what the functions for C hand out.
--     made_handed      a frame that is made
--     next_handed      a step
-- Assumes nothing.
use mathlib.Core.Path.{◌≡◌, ap, subst, ◌∙◌}
use mathlib.Core.List.{List}
use Prim.Native.Nat.{ℕ}
use lib.IntN.{ℤ}
use Rattle.std.specs.Prelude.{Result, Option}
use Rattle.heads.specs.declared.Refusal.{Refusal}
use Rattle.heads.specs.Answer.{Answer}
use Rattle.walk.specs.declared.Waveform.{Waveform}
use Rattle.walk.specs.Advance.{Stop}
use Rattle.walk.specs.Says.{step_says}
use Rattle.walking.specs.Steps.{Goes}
use Rattle.maker.specs.Make.{making, Made}
use Rattle.outputs.specs.Outputs.{Outputs, count_out}
use Rattle.outputs.specs.Walks.{FrameOut, frame_out}
use Rattle.mfer.specs.Answers.{MadeOut}
use Rattle.mfer.specs.Walks.{WalkNext}

-- What the maker does; the start pointer was read back from its bits.
pub made_handed : {z start : ℤ} {sequences channels : ℕ} {numbers : List ℤ} {bits samples d left : List ℕ} {a : Answer ℕ} {out : Outputs ℕ} → z ≡ start
    → Made (making z sequences channels numbers bits samples) d a left → out ≡ count_out a → MadeOut (making start sequences channels numbers bits samples) d out left
made_handed e w h = rw (← e) (record { octets = w.octets; answers = h ∙ ap count_out w.answers; leaves = w.leaves })

pub next_handed : {s u v : List ℕ} {k : Result (Option Waveform) Refusal} {out : Outputs FrameOut} → Goes s u k v → out ≡ frame_out (step_says k) → WalkNext s u out v
next_handed {s} {u} {v} g e =
    let same = ap (λ (z : Stop). z.step) g.same in
    record { answers = e ∙ ap (λ (k : Result (Option Waveform) Refusal). frame_out (step_says k)) same; words = subst (λ (k : Result (Option Waveform) Refusal). Goes s u k v) same g }
