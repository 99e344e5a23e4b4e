-- By the stage.
use Rattle.arriving.proofs.Laws.{takes_in, waits_takes, decided_takes}
use Rattle.arriving.proofs.taken.Goals as goal

pub returns-in-Head : goal.returns-in-Head
returns-in-Head c = takes_in c.args.x c.args.t.now c.args.p c.args.b c.in-Head.is c.in_head.ensures

pub returns-in-Value : goal.returns-in-Value
returns-in-Value c = takes_in c.args.x c.args.t.now c.args.p c.args.b c.in-Value.is c.in_value.ensures

pub returns-in-Waveform : goal.returns-in-Waveform
returns-in-Waveform c = takes_in c.args.x c.args.t.now c.args.p c.args.b c.in-Waveform.is c.in_waveform.ensures

pub returns-in-Waits : goal.returns-in-Waits
returns-in-Waits c = takes_in c.args.x c.args.t.now c.args.p c.args.b c.in-Waits.is (waits_takes c.args.t.now c.args.p c.args.b _ _ c.less.ensures c.waiting.ensures)

pub returns-in-Decided : goal.returns-in-Decided
returns-in-Decided c = takes_in c.args.x c.args.t.now c.args.p c.args.b c.in-Decided.is (decided_takes c.args.x c.args.t.now c.args.p c.args.b c.in-Decided.field-0 c.in-Decided.is)
