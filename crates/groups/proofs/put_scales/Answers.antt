-- Two scales, one after the other.
use lib.ListN.{length-append}
use native.Mathlib.Omega.{arith}
use Rattle.stores.proofs.Stores.{put_then, put_long}
use Rattle.groups.proofs.put_scales.Goals as goal

pub put_scale-a-requires : goal.put_scale-a-requires
put_scale-a-requires c =
    let room = simp length-append at c.requires in
    omega arith

pub put_scale-requires : goal.put_scale-requires
put_scale-requires c =
    let room = simp length-append at c.requires in
    let put = c.put_scale-a.ensures in
    omega (arith, put.next, put_long put)

pub returns : goal.returns
returns c =
    put_then c.put_scale-a.ensures c.put_scale.ensures
