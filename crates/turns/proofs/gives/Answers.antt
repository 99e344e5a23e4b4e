-- By the limit and the stage.
use Rattle.turns.proofs.Laws.{gives_as, gives_nothing, gives-past, gives_head, gives-value, gives-waits, gives-decided, gives-behind, gives_at}
use native.Mathlib.Omega.{arith}
use Rattle.turns.proofs.gives.Goals as goal

pub returns-then-x : goal.returns-then-x
returns-then-x c = gives_nothing (gives-past c.args.x c.args.p c.args.t.now c.args.b (omega arith))

pub returns-then-x-sequence : goal.returns-then-x-sequence
returns-then-x-sequence c = gives_nothing (gives-behind c.args.x c.args.p c.args.t.now c.args.b (omega arith) _ (record { sequence = c.in-Waveform.sequence; channel = c.in-Waveform.channel; index = c.in-Waveform.index }) c.in-Waveform.is (omega arith))

pub returns-else-x-sequence : goal.returns-else-x-sequence
returns-else-x-sequence c = gives_as (gives_at c.args.x c.args.p c.args.t.now c.args.b (omega arith) _ (record { sequence = c.in-Waveform.sequence; channel = c.in-Waveform.channel; index = c.in-Waveform.index }) c.in-Waveform.is (omega arith)) c.sample_given.ensures

pub returns-in-Head : goal.returns-in-Head
returns-in-Head c = gives_nothing (gives_head c.args.x c.args.p c.args.t.now c.args.b (omega arith) c.in-Head.is)

pub returns-in-Value : goal.returns-in-Value
returns-in-Value c = gives_nothing (gives-value c.args.x c.args.p c.args.t.now c.args.b (omega arith) _ _ c.in-Value.is)

pub returns-in-Waits : goal.returns-in-Waits
returns-in-Waits c = gives_nothing (gives-waits c.args.x c.args.p c.args.t.now c.args.b (omega arith) _ _ c.in-Waits.is)

pub returns-in-Decided : goal.returns-in-Decided
returns-in-Decided c = gives_nothing (gives-decided c.args.x c.args.p c.args.t.now c.args.b (omega arith) _ c.in-Decided.is)
