-- By the stage.
use Rattle.lasting.proofs.Laws.{lasts_by}
use native.Mathlib.Omega.{arith}
use mathlib.Core.Path.{refl}
use Rattle.lasting.proofs.most.Goals as goal

pub returns-then-sequence-x : goal.returns-then-sequence-x
returns-then-sequence-x c = (omega arith, lasts_by c.args.x 0 c.in-Waveform.is ((omega arith, λ z. omega arith)))

pub returns-in-Value : goal.returns-in-Value
returns-in-Value c = (c.before_last.ensures.0, lasts_by c.args.x c.before_last.result c.in-Value.is c.before_last.ensures.1)

pub returns-in-Waits : goal.returns-in-Waits
returns-in-Waits c = (c.before_last-in-Waits.ensures.0, lasts_by c.args.x c.before_last-in-Waits.result c.in-Waits.is c.before_last-in-Waits.ensures.1)

pub returns-then-n-left : goal.returns-then-n-left
returns-then-n-left c = (omega arith, lasts_by c.args.x c.args.n c.in-Waveform.is ((omega arith, λ z. omega arith)))

pub returns-else-n-left : goal.returns-else-n-left
returns-else-n-left c = (omega arith, lasts_by c.args.x _ c.in-Waveform.is ((omega arith, λ z. omega arith)))

pub returns-in-Head : goal.returns-in-Head
returns-in-Head c = (omega arith, lasts_by c.args.x 0 c.in-Head.is (refl))

pub returns-in-Decided : goal.returns-in-Decided
returns-in-Decided c = (omega arith, lasts_by c.args.x 0 c.in-Decided.is (refl))
