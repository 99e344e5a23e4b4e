-- Three parts, one after the other.
use Rattle.groups.proofs.Puts.{put_as, items-is, length-items}
use mathlib.Core.Path.{sym}
use native.Mathlib.Omega.{arith}
use Rattle.stores.proofs.Stores.{put_then, put_long}
use Rattle.groups.proofs.put_items.Goals as goal

pub put_first-a-requires : goal.put_first-a-requires
put_first-a-requires c =
    omega (arith, c.requires, length-items c.args.c)

pub put_scales-b-requires : goal.put_scales-b-requires
put_scales-b-requires c =
    let first = c.put_first-a.ensures in
    omega (arith, c.requires, length-items c.args.c, first.next, put_long first)

pub put_last-requires : goal.put_last-requires
put_last-requires c =
    let first = c.put_first-a.ensures in
    let scales = c.put_scales-b.ensures in
    omega (arith, c.requires, length-items c.args.c, first.next, put_long first, scales.next, put_long scales)

pub returns : goal.returns
returns c =
    put_as (sym (items-is c.args.c))
    (put_then (put_then c.put_first-a.ensures c.put_scales-b.ensures) c.put_last.ensures)
