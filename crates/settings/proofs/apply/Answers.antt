-- By the arm of the match: the record after a change, as a function of the change.
use mathlib.Core.Path.{ap, sym}
use Rattle.settings.specs.declared.Change.{Change}
use Rattle.settings.specs.Settings.{applied}
use Rattle.settings.proofs.apply.Goals as goal

pub returns-in-Block : goal.returns-in-Block
returns-in-Block c = ap (λ (x : Change). applied x c.args.s) (sym c.in-Block.is)

pub returns-in-Class : goal.returns-in-Class
returns-in-Class c = ap (λ (x : Change). applied x c.args.s) (sym c.in-Class.is)

pub returns-in-Lead : goal.returns-in-Lead
returns-in-Lead c = ap (λ (x : Change). applied x c.args.s) (sym c.in-Lead.is)

pub returns-in-DataType : goal.returns-in-DataType
returns-in-DataType c = ap (λ (x : Change). applied x c.args.s) (sym c.in-DataType.is)

pub returns-in-Interval : goal.returns-in-Interval
returns-in-Interval c = ap (λ (x : Change). applied x c.args.s) (sym c.in-Interval.is)

pub returns-in-Resolution : goal.returns-in-Resolution
returns-in-Resolution c = ap (λ (x : Change). applied x c.args.s) (sym c.in-Resolution.is)

pub returns-in-Offset : goal.returns-in-Offset
returns-in-Offset c = ap (λ (x : Change). applied x c.args.s) (sym c.in-Offset.is)

pub returns-in-Null : goal.returns-in-Null
returns-in-Null c = ap (λ (x : Change). applied x c.args.s) (sym c.in-Null.is)
