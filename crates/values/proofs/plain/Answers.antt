-- `values::plain` meets its contract: each arm answers what the table has for its data types, and no other type is below 9.
-- Assumes nothing.
use Prim.Native.Nat.{ℕ, ◌≤◌, ◌<◌, zero-le}
use mathlib.Core.Path.{ap, ◌∙◌}
use mathlib.Core.Logic.{inl, inr}
use native.Mathlib.Nat.{lt_of_lt_of_le}
use native.Mathlib.Omega.{arith}
use lib.Dec.{lit≤}
use Rattle.octets.specs.Number.{range, twos}
use Rattle.octets.proofs.Laws.{cap}
use Rattle.values.specs.Sample.{width_of, whole_said, value_says, plain_of}
use Rattle.values.proofs.Laws.{three, plain_signed, plain_unsigned, plain_other, past}
use Rattle.values.proofs.plain.Goals as goal

-- the bits are a number of at most w octets, where the sample has no more
within : (datatype n w : ℕ) → n < range (width_of datatype) → width_of datatype ≤ w → n < range w
within datatype n w b h = lt_of_lt_of_le b (cap _ _ h)

pub whole-requires : goal.whole-requires
unfolding width_of
whole-requires c =
    let small = three (λ k. width_of k ≤ 4) (lit≤ tt) (lit≤ tt) (lit≤ tt) c.in-0.is in
    (omega (arith, c.width.ensures), rw c.width.ensures c.requires)

pub count-requires : goal.count-requires
unfolding width_of
count-requires c = within c.args.datatype _ 4 c.requires (three (λ k. width_of k ≤ 4) (lit≤ tt) (lit≤ tt) (lit≤ tt) c.in-1.is)

pub overflow_cast-result : goal.overflow_cast-result
unfolding width_of
overflow_cast-result c = record { fits = within c.args.datatype _ 2 c.requires (rw c.in-4.is (lit≤ tt)) }

pub single-requires : goal.single-requires
unfolding width_of
single-requires c = within c.args.datatype _ 4 c.requires (rw c.in-7.is (lit≤ tt))

pub returns-in-0 : goal.returns-in-0
returns-in-0 c = c.whole.ensures ∙ ap (λ (w : ℕ). whole_said (twos w c.args.n)) c.width.ensures ∙ plain_signed _ _ c.in-0.is

pub returns-in-1 : goal.returns-in-1
returns-in-1 c = c.count.ensures ∙ plain_unsigned _ _ c.in-1.is

pub returns-in-4 : goal.returns-in-4
unfolding plain_of value_says
returns-in-4 c = rw c.in-4.is

pub returns-in-7 : goal.returns-in-7
unfolding plain_of
returns-in-7 c = rw c.in-7.is c.single.ensures

pub returns-in-8 : goal.returns-in-8
unfolding plain_of
returns-in-8 c = rw c.in-8.is c.double.ensures

pub returns-in_default : goal.returns-in_default
unfolding value_says
returns-in_default c =
    let no_type : 9 ≤ c.args.datatype =
    let signed = c.in_default.in_default-own.rest.0.0.0.0.1 in
    let unsigned = c.in_default.in_default-own.rest.0.0.0.1 in
    past (past (past (past (past (past (past (past (past zero-le
    (λ e. signed (inl e)))
    (λ e. unsigned (inl e)))
    (λ e. signed (inr (inl e))))
    (λ e. unsigned (inr (inl e))))
    c.in_default.in_default-own.rest.0.0.1)
    (λ e. signed (inr (inr e))))
    (λ e. unsigned (inr (inr e))))
    c.in_default.in_default-own.rest.0.1)
    c.in_default.in_default-own.rest.1 in
    plain_other _ _ (no_type)
