-- By the step that is handed out.
use mathlib.Core.Path.{◌≡◌, sym, ap, ◌∙◌}
use mir.Syntax.{w64}
use mir.Val.{SFits}
use mir.Facts.{to_z-of_z}
use borrow.Author.Rules.{rules}
use Rattle.std.specs.Prelude.{Result, Ok, Option, Some, None}
use Rattle.heads.specs.declared.Refusal.{Refusal}
use Rattle.walk.specs.declared.Waveform.{Waveform}
use Rattle.walk.specs.Says.{step_says}
use Rattle.outputs.specs.Outputs.{outputs, handed_out}
use Rattle.outputs.specs.Walks.{frame_values, no_frame_values, frame_out}
use Rattle.outputs.proofs.step_out.Goals as goal

pub returns-in-Ok-Some : goal.returns-in-Ok-Some
unfolding handed_out
returns-in-Ok-Some c =
    let in64 : SFits w64 c.in-Ok-Some.v.start = search rules in
    let is : c.args.r ≡ Ok (Some c.in-Ok-Some.v) = c.in-Ok-Some.is ∙ ap Ok (rw c.in-Ok-Some.is at c.in-Ok-Some.field-0-is) in
    (λ i. outputs 0 0 (frame_values (to_z-of_z in64 i) (c.frame_numbers.ensures i)))
    ∙ ap (λ (x : Result (Option Waveform) Refusal). frame_out (step_says x)) (sym is)

pub returns-in-Ok-None : goal.returns-in-Ok-None
unfolding handed_out
returns-in-Ok-None c =
    let is : c.args.r ≡ Ok None = c.in-Ok-None.is ∙ ap Ok (rw c.in-Ok-None.is at c.in-Ok-None.field-0-is) in
    (λ i. outputs (c.number.ensures i) 0 no_frame_values)
    ∙ ap (λ (x : Result (Option Waveform) Refusal). frame_out (step_says x)) (sym is)

pub returns-in-Err : goal.returns-in-Err
unfolding handed_out
returns-in-Err c =
    (λ i. outputs (c.number-in-Err.ensures i) c.in-Err.x.place no_frame_values)
    ∙ ap (λ (x : Result (Option Waveform) Refusal). frame_out (step_says x)) (sym c.in-Err.is)
