-- By the answer of the question.
use mathlib.Core.Path.{sym, ap, ◌∙◌}
use Rattle.std.specs.Prelude.{Result}
use Rattle.heads.specs.declared.Refusal.{Refusal}
use Rattle.heads.specs.Answer.{answer_of}
use Rattle.reader.specs.declared.Attributes.{Attributes}
use Rattle.outputs.specs.Outputs.{outputs, handed_out, attributes_values, zero_attributes, attributes_out}
use Rattle.outputs.proofs.described_out.Goals as goal

pub returns-in-Ok : goal.returns-in-Ok
unfolding handed_out
returns-in-Ok c =
    (λ i. outputs 0 0 (attributes_values (c.numbers_of.ensures i) (c.bit_pair_of.ensures i)))
    ∙ ap (λ (x : Result Attributes Refusal). attributes_out (answer_of x)) (sym c.in-Ok.is)

pub returns-in-Err : goal.returns-in-Err
unfolding handed_out
returns-in-Err c =
    (λ i. outputs (c.number.ensures i) c.in-Err.x.place zero_attributes)
    ∙ ap (λ (x : Result Attributes Refusal). attributes_out (answer_of x)) (sym c.in-Err.is)
