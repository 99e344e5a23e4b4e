-- By the stage.
use Rattle.turns.proofs.Laws.{run_on, pass_run}
use Rattle.turns.proofs.many.Goals as goal

pub samples_on-requires : goal.samples_on-requires
samples_on-requires c = record { stage = c.in-Waveform.is; held = c.if-core-eq0.true; some = c.if-left-gt0.true }

pub returns-in-Head : goal.returns-in-Head
returns-in-Head c = run_on c.args.x c.args.p c.args.t.now c.args.u.now c.args.out.now c.items_on.ensures

pub returns-else-left-gt0 : goal.returns-else-left-gt0
returns-else-left-gt0 c = pass_run c.args.x c.args.p c.args.t.now c.args.u.now c.args.out.now c.pass_on.ensures.0 c.pass_on.ensures.1

pub returns-in_default : goal.returns-in_default
returns-in_default c = pass_run c.args.x c.args.p c.args.t.now c.args.u.now c.args.out.now c.pass_on-in_default.ensures.0 c.pass_on-in_default.ensures.1
