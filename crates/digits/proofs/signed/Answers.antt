-- `digits::signed` meets its contract: the number of at most four octets is one of their width, and `extended` gives it its sign.
-- Assumes nothing.
use Prim.Native.Nat.{◌≤◌}
use mathlib.Core.Path.{◌∙◌}
use native.Mathlib.Omega.{arith}
use lib.ListN.{length}
use mir.Syntax.{w32}
use mir.Facts.{to_z-of_z}
use Rattle.octets.specs.Number.{signed_of, NumberRead}
use Rattle.octets.proofs.Laws.{part_short, read_all}
use borrow.Author.Rules.{rules}
use Rattle.digits.proofs.signed.Goals as goal

pub extended-requires : goal.extended-requires
extended-requires c =
    let short : length c.part-x.result.now ≤ 4 =
    part_short 4 c.args.s.now _ c.part-x.ensures in
    let all : NumberRead c.args.little c.part-x.result.now c.number.result =
    read_all _ _ _ (omega (arith, short)) c.number.ensures in
    (short, (all).below)

pub returns : goal.returns
unfolding signed_of
returns c =
    let short : length c.part-x.result.now ≤ 4 =
    part_short 4 c.args.s.now _ c.part-x.ensures in
    let all : NumberRead c.args.little c.part-x.result.now c.number.result =
    read_all _ _ _ (omega (arith, short)) c.number.ensures in
    to_z-of_z {w = w32} (search rules) ∙ c.extended.ensures ∙ rw ((all).value, c.part-x.ensures)
