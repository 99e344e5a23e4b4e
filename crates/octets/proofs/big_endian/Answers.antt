-- `octets::big_endian` meets its contract: what was read so far, with the octets that are left after it, always gives the number
-- of all octets. Assumes nothing.
use native.Mathlib.Nat.{lt_of_lt_of_le}
use native.Mathlib.Omega.{arith}
use lib.Dec.{lit<}
use Rattle.octets.specs.Number.{number_of}
use Rattle.octets.proofs.Laws.{push, cap, push_fits, big_turn, big_end}
use Rattle.octets.proofs.big_endian.Goals as goal

pub overflow_mul-n : goal.overflow_mul-n
overflow_mul-n c = omega (arith, push_fits c.loop-b.b-index c.loop-b.n 0 (omega arith) c.loop-b.invariant.0 (lit< tt))

pub overflow_add-n : goal.overflow_add-n
overflow_add-n c =
    let k = (c.type_inv.s c.loop-b.b-index).fits in
    rw c.from.ensures (record { fits = push_fits _ _ _ (omega arith) c.loop-b.invariant.0 k })

pub loop-b-preserved : goal.loop-b-preserved
loop-b-preserved c =
    let l = c.loop-b in
    let k = (c.type_inv.s l.b-index).fits in
    let here = c.loop-b-test.true in (
      rw c.from.ensures (push _ _ _ l.invariant.0 k),
      big_turn _ _ _ _ _ here l.invariant.1 c.from.ensures,
    )

pub returns : goal.returns
unfolding number_of
returns c =
    let l = c.loop-b in
    record {
      value = big_end _ _ _ _ c.loop-b-test.false l.invariant.1;
      below = lt_of_lt_of_le l.invariant.0 (cap _ _ (omega arith));
    }
