-- Octets of a common width are read one by one; of any other, each byte order is read by a function of its own, from the part that
-- counts. Assumes nothing.
use mathlib.Core.Path.{refl}
use native.Mathlib.Omega.{arith}
use lib.Dec.{lit≤}
use Rattle.octets.specs.Number.{big_from}
use Rattle.octets.proofs.Laws.{part_short}
use Rattle.octets.proofs.Octets.{here_one, here_big, here-little, first_read}
use Rattle.octets.proofs.number.Goals as goal

pub returns-then-s-eq1 : goal.returns-then-s-eq1
returns-then-s-eq1 c =
    first_read c.args.little 1 c.args.s.now c.if-s-eq1.true (lit≤ tt)
    (λ i. (c.type_inv.s i).fits)
    (here_one c.args.little c.args.s.now 0 (omega (arith, c.if-s-eq1.true)) c.from.ensures)

pub returns-then-little : goal.returns-then-little
unfolding big_from
returns-then-little c =
    first_read c.args.little 2 c.args.s.now c.if-s-eq2.true (lit≤ tt)
    (λ i. (c.type_inv.s i).fits)
    (here-little 1 c.args.s.now 0 (omega (arith, c.if-s-eq2.true)) c.if-little.true refl (omega (arith, c.from_le_bytes.ensures, c.from-then-little.ensures)))

pub returns-then-s-eq2 : goal.returns-then-s-eq2
unfolding big_from
returns-then-s-eq2 c =
    first_read c.args.little 2 c.args.s.now c.if-s-eq2.true (lit≤ tt)
    (λ i. (c.type_inv.s i).fits)
    (here_big 1 c.args.s.now 0 (omega (arith, c.if-s-eq2.true)) c.if-little.false (omega (arith, c.from_be_bytes.ensures, c.from-then-s-eq2.ensures)))

pub returns-then-little-2 : goal.returns-then-little-2
unfolding big_from
returns-then-little-2 c =
    first_read c.args.little 4 c.args.s.now c.if-s-eq4.true (lit≤ tt)
    (λ i. (c.type_inv.s i).fits)
    (here-little 3 c.args.s.now 0 (omega (arith, c.if-s-eq4.true)) c.if-little-2.true refl (omega (arith, c.from_le_bytes-then-little-2.ensures, c.from-then-little-2.ensures)))

pub returns-then-s-eq4 : goal.returns-then-s-eq4
unfolding big_from
returns-then-s-eq4 c =
    first_read c.args.little 4 c.args.s.now c.if-s-eq4.true (lit≤ tt)
    (λ i. (c.type_inv.s i).fits)
    (here_big 3 c.args.s.now 0 (omega (arith, c.if-s-eq4.true)) c.if-little-2.false (omega (arith, c.from_be_bytes-then-s-eq4.ensures, c.from-then-s-eq4.ensures)))

pub little_endian-requires : goal.little_endian-requires
little_endian-requires c =
    part_short 8 c.args.s.now _ c.part-x.ensures

pub big_endian-requires : goal.big_endian-requires
big_endian-requires c =
    part_short 8 c.args.s.now _ c.part-x.ensures

pub returns-then-little-3 : goal.returns-then-little-3
returns-then-little-3 c = rw (c.if-little-3.true, ← c.part-x.ensures) c.little_endian.ensures

pub returns-else-little-3 : goal.returns-else-little-3
returns-else-little-3 c = rw (c.if-little-3.false, ← c.part-x.ensures) c.big_endian.ensures
