-- The table of the definition, type by type.
use mathlib.Core.Path.{sym, ap}
use Rattle.values.specs.Told.{shape_of}
use Rattle.values.proofs.Told.{shape_other}
use Rattle.values.proofs.Shape.of_type.Goals as goal

pub returns-in-0 : goal.returns-in-0
unfolding shape_of
returns-in-0 c = ap shape_of (sym c.in-0.is)

pub returns-in-2 : goal.returns-in-2
unfolding shape_of
returns-in-2 c = ap shape_of (sym c.in-2.is)

pub returns-in-4 : goal.returns-in-4
unfolding shape_of
returns-in-4 c = ap shape_of (sym c.in-4.is)

pub returns-in-5 : goal.returns-in-5
unfolding shape_of
returns-in-5 c = ap shape_of (sym c.in-5.is)

pub returns-in-7 : goal.returns-in-7
unfolding shape_of
returns-in-7 c = ap shape_of (sym c.in-7.is)

pub returns-in-8 : goal.returns-in-8
unfolding shape_of
returns-in-8 c = ap shape_of (sym c.in-8.is)

pub returns-in_default : goal.returns-in_default
returns-in_default c =
    let rest = c.in_default.in_default-own.rest in
    shape_other _ rest.0.0.0.0.0.1 rest.0.0.0.0.1 rest.0.0.0.1 rest.0.0.1 rest.0.1 rest.1
