-- The loop's invariant: how far the call has come.
use Prim.Native.Nat.{◌^◌, ◌<◌}
use Rattle.turns.proofs.Laws.{lent_more, lent_last, lent_inside, lent_room, lent_long, lent_less}
use mathlib.Core.Path.{◌∙◌}
use Prim.Native.Nat.{◌*◌, ◌≤◌}
use Rattle.rows.specs.Rows.{row_words}
use Rattle.turns.proofs.Laws.{rows-kept}
use Rattle.turns.proofs.Laws.{feed_first}
use native.Mathlib.Omega.{arith}
use lib.ListN.{length}
use borrow.Author.Rules.{rules}
use Rattle.turns.proofs.feed.Goals as goal

pub loop-link-init : goal.loop-link-init
loop-link-init c = feed_first c.args.x c.args.p c.args.t.now c.args.s.now c.args.out.now

pub overflow_mul-at : goal.overflow_mul-at
overflow_mul-at c =
    let inv = c.loop-link.invariant in
    let kept = rows-kept inv.rows in
    omega (arith, inv.rows.room)

pub slice_bounds-turn-count : goal.slice_bounds-turn-count
slice_bounds-turn-count c = c.loop-link.invariant.inside

pub slice_bounds-turn-start : goal.slice_bounds-turn-start
slice_bounds-turn-start c =
    let h = c.loop-link.invariant.inside in
    search rules

pub slice_bounds-turn-end : goal.slice_bounds-turn-end
slice_bounds-turn-end c =
    let h = c.loop-link.invariant.inside in
    search rules

pub offset_bounds-out-at : goal.offset_bounds-out-at
offset_bounds-out-at c =
    let inv = c.loop-link.invariant in
    let kept = rows-kept inv.rows in
    search rules

pub slice_bounds-turn-count-in-loop-link : goal.slice_bounds-turn-count-in-loop-link
slice_bounds-turn-count-in-loop-link c =
    let inv = c.loop-link.invariant in
    let kept = rows-kept inv.rows in
    omega (arith, inv.rows.room)

pub slice_bounds-turn-start-in-loop-link : goal.slice_bounds-turn-start-in-loop-link
slice_bounds-turn-start-in-loop-link c =
    let inv = c.loop-link.invariant in
    let kept = rows-kept inv.rows in
    let h : c.loop-link.given * row_words ≤ length c.loop-link.out = omega (arith, inv.rows.room) in
    search rules

pub slice_bounds-turn-end-in-loop-link : goal.slice_bounds-turn-end-in-loop-link
slice_bounds-turn-end-in-loop-link c =
    let inv = c.loop-link.invariant in
    let kept = rows-kept inv.rows in
    let h : c.loop-link.given * row_words ≤ length c.loop-link.out = omega (arith, inv.rows.room) in
    search rules

pub overflow_add-taken : goal.overflow_add-taken
overflow_add-taken c =
    let octets-few : length c.args.s.now < 2 ^ 64 =
    omega arith in
    let inside = lent_inside c.loop-link.invariant c.turn-r.ensures in
    let few = octets-few in
    omega arith

pub overflow_add-given : goal.overflow_add-given
overflow_add-given c =
    let words-few : length c.args.out.now < 2 ^ 64 =
    omega arith in
    let room = lent_room c.loop-link.invariant c.turn-r.ensures in
    let few = words-few in
    omega arith

pub shape_of-t-then-r : goal.shape_of-t-then-r
shape_of-t-then-r c =
    let w = c.turn-r.ensures in
    w.long ∙ c.loop-link.invariant.long

pub shape_of-out-then-r : goal.shape_of-out-then-r
shape_of-out-then-r c = lent_long c.loop-link.invariant c.turn-r.ensures

pub returns-then-r : goal.returns-then-r
returns-then-r c = lent_last c.loop-link.invariant c.turn-r.ensures c.if-r.true

pub loop-link-smaller : goal.loop-link-smaller
loop-link-smaller c = lent_less c.loop-link.invariant c.turn-r.ensures c.if-r.false

pub loop-link-preserved : goal.loop-link-preserved
loop-link-preserved c = lent_more c.loop-link.invariant c.turn-r.ensures c.if-r.false
