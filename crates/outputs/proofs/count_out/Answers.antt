-- By the answer, a count or a refusal.
use Prim.Native.Nat.{ℕ}
use mathlib.Core.Path.{sym, ap, ◌∙◌}
use Rattle.std.specs.Prelude.{Result}
use Rattle.heads.specs.declared.Refusal.{Refusal}
use Rattle.heads.specs.Answer.{answer_of}
use Rattle.outputs.specs.Outputs.{outputs, handed_out, count_out}
use Rattle.outputs.proofs.count_out.Goals as goal

pub returns-in-Ok : goal.returns-in-Ok
unfolding handed_out
returns-in-Ok c = ap (λ (x : Result ℕ Refusal). count_out (answer_of x)) (sym c.in-Ok.is)

pub returns-in-Err : goal.returns-in-Err
unfolding handed_out
returns-in-Err c =
    (λ i. outputs (c.number.ensures i) c.in-Err.x.place 0)
    ∙ ap (λ (x : Result ℕ Refusal). count_out (answer_of x)) (sym c.in-Err.is)
