-- All octets of the part are looked at.
use lib.ListN.{drop}
use Rattle.octets.proofs.Laws.{part_whole, part_read, part_fits}
use Rattle.rows.proofs.bits_at.Goals as goal

pub returns : goal.returns
returns c =
    let a = c.args in
    let rest = drop a.i a.u.now in
    let part = part_whole a.u.now a.i a.w in
    (part_read a.little a.w rest _ c.requires.0 part c.number.ensures, part_fits a.little a.w rest _ c.requires.0 part c.number.ensures)
