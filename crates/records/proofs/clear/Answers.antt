-- The loop's invariant: the times of the records before k are 0.
use mathlib.Core.Path.{◌≡◌}
use native.Mathlib.Omega.{arith}
use Rattle.words.specs.Words.{records_held}
use Rattle.records.proofs.Laws.{clearing_more, clearing_all}
use Rattle.records.proofs.clear.Goals as goal

pub loop-k-preserved : goal.loop-k-preserved
loop-k-preserved c = (c.loop-k.invariant.0, clearing_more (omega arith) c.loop-k.invariant.1)

pub returns : goal.returns
returns c =
    let e : c.loop-k.k ≡ records_held c.args.t.now = omega arith in
    clearing_all (rw e at c.loop-k.invariant.1)
