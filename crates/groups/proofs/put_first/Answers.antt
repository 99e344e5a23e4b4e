-- Four numbers' items, one after the other.
use native.Mathlib.Omega.{arith}
use lib.ListN.{length-append}
use Rattle.groups.proofs.Puts.{put_two, put_more}
use Rattle.groups.proofs.put_first.Goals as goal

pub returns : goal.returns
returns c =
    let room = simp length-append at c.requires in
    put_more (simp length-append (omega arith))
    (put_more (simp length-append (omega arith))
    (put_two (omega arith) (rw c.from.ensures at c.put_field-a.ensures) (rw c.from-2.ensures at c.put_field-b.ensures))
    (rw c.from-3.ensures at c.put_field-d.ensures))
    (rw c.from-4.ensures at c.put_field.ensures)
