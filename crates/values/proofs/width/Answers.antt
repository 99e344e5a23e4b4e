-- `values::width` meets its contract: the table of the definition, type by type. Assumes nothing.
use mathlib.Core.Path.{◌≡◌, sym, ap}
use Prim.Native.Nat.{ℕ, ◌+◌, ◌≤◌}
use native.Mathlib.Omega.{arith}
use Rattle.values.specs.Sample.{width_of}
use Rattle.values.proofs.Laws.{width_other}
use Rattle.values.proofs.width.Goals as goal

one_more : (k m : ℕ) → m ≤ k → (k ≡ m → ⊥) → m + 1 ≤ k
one_more k m h n = omega arith

pub returns-in-0 : goal.returns-in-0
unfolding width_of
returns-in-0 c = ap width_of (sym c.in-0.is)

pub returns-in-1 : goal.returns-in-1
unfolding width_of
returns-in-1 c = ap width_of (sym c.in-1.is)

pub returns-in-2 : goal.returns-in-2
unfolding width_of
returns-in-2 c = ap width_of (sym c.in-2.is)

pub returns-in-3 : goal.returns-in-3
unfolding width_of
returns-in-3 c = ap width_of (sym c.in-3.is)

pub returns-in-4 : goal.returns-in-4
unfolding width_of
returns-in-4 c = ap width_of (sym c.in-4.is)

pub returns-in-5 : goal.returns-in-5
unfolding width_of
returns-in-5 c = ap width_of (sym c.in-5.is)

pub returns-in-6 : goal.returns-in-6
unfolding width_of
returns-in-6 c = ap width_of (sym c.in-6.is)

pub returns-in-7 : goal.returns-in-7
unfolding width_of
returns-in-7 c = ap width_of (sym c.in-7.is)

pub returns-in-8 : goal.returns-in-8
unfolding width_of
returns-in-8 c = ap width_of (sym c.in-8.is)

pub returns-in_default : goal.returns-in_default
returns-in_default c = width_other c.args.datatype (one_more _ 8 (one_more _ 7 (one_more _ 6 (one_more _ 5 (one_more _ 4 (one_more _ 3 (one_more _ 2 (one_more _ 1 (one_more _ 0 (omega arith) c.in_default.in_default-own.rest.0.0.0.0.0.0.0.0.1) c.in_default.in_default-own.rest.0.0.0.0.0.0.0.1) c.in_default.in_default-own.rest.0.0.0.0.0.0.1) c.in_default.in_default-own.rest.0.0.0.0.0.1) c.in_default.in_default-own.rest.0.0.0.0.1) c.in_default.in_default-own.rest.0.0.0.1) c.in_default.in_default-own.rest.0.0.1) c.in_default.in_default-own.rest.0.1) c.in_default.in_default-own.rest.1)
