-- The loop's invariant: the octets before a stand behind those that were kept.
use borrow.Author.Rules.{rules}
use Rattle.lasting.proofs.Laws.{joined_first, joined-more, joined-all}
use native.Mathlib.Omega.{arith}
use mathlib.Core.Path.{◌≡◌}
use Prim.Native.Nat.{◌-◌, ◌<◌, min}
use lib.ListN.{length}
use Rattle.link.specs.Link.{kept_limit}
use Rattle.lasting.proofs.joined.Goals as goal

pub overflow_sub-n : goal.overflow_sub-n
overflow_sub-n c = omega arith

pub smaller-m-requires : goal.smaller-m-requires
smaller-m-requires c = tt

pub loop-a-init : goal.loop-a-init
loop-a-init c = (c.requires, c.smaller-m.ensures, omega arith, joined_first c.args.p c.args.n c.args.u.now)

pub bounds-u-a : goal.bounds-u-a
bounds-u-a c = let inv = c.loop-a.invariant in omega (arith, inv.1)

pub overflow_add-r : goal.overflow_add-r
overflow_add-r c = let inv = c.loop-a.invariant in omega (arith, inv.1)

pub bounds-r-n : goal.bounds-r-n
bounds-r-n c = let inv = c.loop-a.invariant in omega (arith, inv.1)

pub overflow_add-a : goal.overflow_add-a
overflow_add-a c = let inv = c.loop-a.invariant in omega (arith, inv.1)

pub loop-a-smaller : goal.loop-a-smaller
loop-a-smaller c = omega arith

pub loop-a-preserved : goal.loop-a-preserved
loop-a-preserved c =
    let long_enough : kept_limit < length c.args.p =
    search rules in
    let inv = c.loop-a.invariant in
    (inv.0, inv.1, omega arith, joined-more inv.3 (omega (arith, long_enough)) (omega (arith, inv.1)))

pub returns : goal.returns
returns c =
    let long_enough : kept_limit < length c.args.p =
    search rules in
    let inv = c.loop-a.invariant in
    let all : c.loop-a.a ≡ min (length c.args.u.now) (kept_limit - c.args.n) = omega (arith, inv.1) in
    joined-all c.args.p c.args.n c.args.u.now c.loop-a.r c.loop-a.a inv.0 (long_enough) all inv.3
