-- By the answer of the question; what the value says is handed out.
use mathlib.Core.Path.{sym, ap, ◌∙◌}
use mir.Syntax.{w64}
use mir.Val.{SFits}
use mir.Facts.{to_z-of_z}
use borrow.Author.Rules.{rules}
use Rattle.std.specs.Prelude.{Result}
use Rattle.heads.specs.declared.Refusal.{Refusal}
use Rattle.reader.specs.declared.Reading.{Reading}
use Rattle.reader.specs.Answer.{sampled_says}
use Rattle.outputs.specs.Outputs.{outputs, handed_out, sample_values, zero_sample, sample_out}
use Rattle.outputs.proofs.sampled_out.Goals as goal

pub returns-in-Ok : goal.returns-in-Ok
unfolding handed_out
returns-in-Ok c =
    let in64 : SFits w64 c.whole_of.result = search rules in
    (λ i. outputs 0 c.in-Ok.x.place (sample_values (c.kind_of.ensures i) ((to_z-of_z in64 ∙ c.whole_of.ensures) i) c.in-Ok.x.bits))
    ∙ ap (λ (x : Result Reading Refusal). sample_out (sampled_says x)) (sym c.in-Ok.is)

pub returns-in-Err : goal.returns-in-Err
unfolding handed_out
returns-in-Err c =
    (λ i. outputs (c.number.ensures i) c.in-Err.x.place zero_sample)
    ∙ ap (λ (x : Result Reading Refusal). sample_out (sampled_says x)) (sym c.in-Err.is)
