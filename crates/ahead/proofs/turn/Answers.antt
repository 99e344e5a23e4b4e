-- The item is the one behind the stretch.
use mathlib.Core.Path.{◌∙◌}
use native.Mathlib.Omega.{arith}
use Rattle.heads.proofs.Heads.{rest-is}
use Rattle.ahead.proofs.Laws.{goes-both, goes_near}
use Rattle.ahead.proofs.turn.Goals as goal

pub stretched-first-requires : goal.stretched-first-requires
stretched-first-requires c = c.requires

pub slice_bounds-single-count : goal.slice_bounds-single-count
slice_bounds-single-count c = omega (arith, c.stretched-first.ensures.inside)

pub slice_bounds-single-start : goal.slice_bounds-single-start
slice_bounds-single-start c = omega (arith, c.stretched-first.ensures.inside)

pub slice_bounds-single-end : goal.slice_bounds-single-end
slice_bounds-single-end c = omega (arith, c.stretched-first.ensures.inside)

pub single-next-requires : goal.single-next-requires
single-next-requires c =
    goes_near c.stretched-first.ensures (rest-is c.stretched-first.result.taken c.args.u.now) c.requires

pub shape_of-t : goal.shape_of-t
shape_of-t c =
    c.single-next.ensures.long ∙ c.stretched-first.ensures.long

pub returns : goal.returns
returns c =
    goes-both c.stretched-first.ensures (rest-is c.stretched-first.result.taken c.args.u.now) c.single-next.ensures
