-- By the arm of the match: the times as a function of the change.
use Rattle.std.proofs.Common.{sym, ap}
use Rattle.settings.specs.declared.Change.{Change}
use Rattle.dated.specs.Dated.{timed}
use Rattle.dated.proofs.timed.Goals as goal

pub returns-in-Block : goal.returns-in-Block
returns-in-Block c = ap (λ (x : Change). timed x c.args.now c.args.t) (sym c.in-Block.is)

pub returns-in-Class : goal.returns-in-Class
returns-in-Class c = ap (λ (x : Change). timed x c.args.now c.args.t) (sym c.in-Class.is)

pub returns-in-Lead : goal.returns-in-Lead
returns-in-Lead c = ap (λ (x : Change). timed x c.args.now c.args.t) (sym c.in-Lead.is)

pub returns-in-DataType : goal.returns-in-DataType
returns-in-DataType c = ap (λ (x : Change). timed x c.args.now c.args.t) (sym c.in-DataType.is)

pub returns-in-Interval : goal.returns-in-Interval
returns-in-Interval c = ap (λ (x : Change). timed x c.args.now c.args.t) (sym c.in-Interval.is)

pub returns-in-Resolution : goal.returns-in-Resolution
returns-in-Resolution c = ap (λ (x : Change). timed x c.args.now c.args.t) (sym c.in-Resolution.is)

pub returns-in-Offset : goal.returns-in-Offset
returns-in-Offset c = ap (λ (x : Change). timed x c.args.now c.args.t) (sym c.in-Offset.is)

pub returns-in-Null : goal.returns-in-Null
returns-in-Null c = ap (λ (x : Change). timed x c.args.now c.args.t) (sym c.in-Null.is)
