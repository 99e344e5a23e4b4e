-- By the channel that is looked up.
use mathlib.Core.Path.{sym, ap, ◌∙◌}
use Rattle.std.specs.Prelude.{Result}
use Rattle.heads.specs.declared.Refusal.{Refusal}
use Rattle.heads.specs.Answer.{answer_of}
use Rattle.view.specs.declared.View.{View}
use Rattle.numbers.specs.Numbers.{numbers_of, bit_pair_of}
use Rattle.outputs.specs.Outputs.{outputs, handed_out}
use Rattle.outputs.specs.Walks.{channel_values, zero_channel, channel_out}
use Rattle.outputs.proofs.looked_up_out.Goals as goal

pub returns-in-Ok : goal.returns-in-Ok
unfolding handed_out
returns-in-Ok c =
    let is = c.attributes_seen-a.ensures in
    let numbers = c.numbers_of.ensures ∙ ap numbers_of is in
    let bits = c.bit_pair_of.ensures ∙ ap bit_pair_of is in
    (λ i. outputs 0 0 (channel_values (numbers i) (bits i) c.in-Ok.v.below))
    ∙ ap (λ (x : Result View Refusal). channel_out (answer_of x)) (sym c.in-Ok.is)

pub returns-in-Err : goal.returns-in-Err
unfolding handed_out
returns-in-Err c =
    (λ i. outputs (c.number.ensures i) c.in-Err.x.place zero_channel)
    ∙ ap (λ (x : Result View Refusal). channel_out (answer_of x)) (sym c.in-Err.is)
