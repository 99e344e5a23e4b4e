-- By the kind that the arm has found.
use mathlib.Core.Path.{sym, ap}
use Rattle.values.specs.declared.Value.{Value}
use Rattle.values.specs.Sample.{value_says}
use Rattle.numbers.proofs.kind_of.Goals as goal

pub returns-in-Whole : goal.returns-in-Whole
unfolding value_says
returns-in-Whole c = ap (λ (v : Value). (value_says v).kind) (sym c.in-Whole.is)

pub returns-in-Status : goal.returns-in-Status
unfolding value_says
returns-in-Status c = ap (λ (v : Value). (value_says v).kind) (sym c.in-Status.is)

pub returns-in-Single : goal.returns-in-Single
unfolding value_says
returns-in-Single c = ap (λ (v : Value). (value_says v).kind) (sym c.in-Single.is)

pub returns-in-Double : goal.returns-in-Double
unfolding value_says
returns-in-Double c = ap (λ (v : Value). (value_says v).kind) (sym c.in-Double.is)

pub returns-in-NotNumber : goal.returns-in-NotNumber
unfolding value_says
returns-in-NotNumber c = ap (λ (v : Value). (value_says v).kind) (sym c.in-NotNumber.is)

pub returns-in-Null : goal.returns-in-Null
unfolding value_says
returns-in-Null c = ap (λ (v : Value). (value_says v).kind) (sym c.in-Null.is)

pub returns-in-NoData : goal.returns-in-NoData
unfolding value_says
returns-in-NoData c = ap (λ (v : Value). (value_says v).kind) (sym c.in-NoData.is)
