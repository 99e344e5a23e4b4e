-- By the arm of the match: each number is that of the lowest octets of its word.
use Rattle.std.specs.Prelude.{Ok, Err}
use mathlib.Core.Path.{ap, sym, ◌∙◌}
use Prim.Native.Nat.{◌<◌, ◌^◌}
use native.Mathlib.Nat.{mod-eq_of_lt}
use Rattle.held.specs.declared.Stage.{Stage}
use Rattle.held.specs.Words.{noted}
use borrow.Author.Rules.{rules}
use Rattle.held.proofs.stage_words.Goals as goal

pub returns-in-Value : goal.returns-in-Value
returns-in-Value c =
    let low : c.in-Value.tag < 256 = search rules in
    (λ i. Stage.Value (mod-eq_of_lt low i) c.in-Value.left) ∙ sym c.in-Value.is

pub returns-in-Waveform : goal.returns-in-Waveform
returns-in-Waveform c =
    let sequence : c.in-Waveform.sequence < 2 ^ 32 = search rules in
    let channel : c.in-Waveform.channel < 2 ^ 32 = search rules in
    let index : c.in-Waveform.index < 2 ^ 32 = search rules in
    (λ i. Stage.Waveform c.in-Waveform.left (mod-eq_of_lt sequence i) (mod-eq_of_lt channel i) (mod-eq_of_lt index i)) ∙ sym c.in-Waveform.is

pub returns-in-Waits : goal.returns-in-Waits
returns-in-Waits c =
    let r = c.in-Waits.r in
    let low : r.number < 256 = search rules in
    (λ i. Stage.Waits c.in-Waits.left (noted (mod-eq_of_lt low i) r.place)) ∙ sym c.in-Waits.is

pub returns-in-Ok : goal.returns-in-Ok
returns-in-Ok c =
    let low : c.in-Ok.n < 2 ^ 32 = search rules in
    (λ i. Stage.Decided (Ok (mod-eq_of_lt low i))) ∙ sym (c.in-Decided.is ∙ ap Stage.Decided c.in-Ok.is)

pub returns-in-Err : goal.returns-in-Err
returns-in-Err c =
    let r = c.in-Err.r in
    let low : r.number < 256 = search rules in
    (λ i. Stage.Decided (Err (noted (mod-eq_of_lt low i) r.place))) ∙ sym (c.in-Decided.is ∙ ap Stage.Decided c.in-Err.is)
