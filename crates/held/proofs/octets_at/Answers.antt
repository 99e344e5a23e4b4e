-- The loop's invariant: the octets before a are read.
use mathlib.Core.Path.{sym, ◌∙◌}
use native.Mathlib.Nat.{zero-add}
use native.Mathlib.Omega.{arith}
use lib.ListN.{take, length-take}
use lib.Seq.{get_or-take}
use Rattle.words.proofs.Laws.{overlaid_more}
use Rattle.held.specs.Words.{core_in}
use Rattle.held.proofs.Laws.{low-at, octets_are}
use Rattle.held.proofs.octets_at.Goals as goal

pub loop-a-preserved : goal.loop-a-preserved
loop-a-preserved c =
    let w = c.args.w.now in
    let a = c.loop-a.a in
    let more = rw zero-add at (overlaid_more (omega arith) c.loop-a.invariant.1) in
    (omega arith, rw (c.one_at.ensures ∙ sym (low-at w a)) more)

pub returns : goal.returns
returns c =
    let w = c.args.w.now in
    let n = (core_in w).held in
    let o = c.loop-a.invariant.1 in
    octets_are w (take n c.loop-a.r) (length-take n c.loop-a.r ∙ omega (arith, o.long))
    (λ k l. get_or-take n c.loop-a.r k 0 l ∙ rw zero-add at (o.inside k (omega arith)) ∙ low-at w k)
