-- Tag, channel number, length and items, one after the other.
use native.Mathlib.Omega.{arith}
use Rattle.stores.proofs.Stores.{put_then, put_long}
use lib.ListN.{length-append}
use Rattle.groups.proofs.Puts.{put_as, group_is, ahead-stored}
use Rattle.groups.proofs.store_group.Goals as goal

pub put_items-requires : goal.put_items-requires
put_items-requires c =
    let a = c.args in
    let is = group_is a.k a.n a.c c.requires.0 in
    let room = simp length-append at (rw (← is) at c.requires.1) in
    let ahead = ahead-stored a.k a.n (simp length-append (omega arith)) c.put_octet-a.ensures c.put_channel-b.ensures c.put_octet-d.ensures in
    omega (arith, simp length-append at ahead.next, put_long ahead)

pub returns : goal.returns
returns c =
    let a = c.args in
    let is = group_is a.k a.n a.c c.requires.0 in
    let room = simp length-append at (rw (← is) at c.requires.1) in
    let ahead = ahead-stored a.k a.n (simp length-append (omega arith)) c.put_octet-a.ensures c.put_channel-b.ensures c.put_octet-d.ensures in
    put_as is (put_then ahead c.put_items.ensures)
