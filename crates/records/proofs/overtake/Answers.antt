-- The loop's invariant: the words before a are taken over.
use mathlib.Core.Path.{◌≡◌}
use native.Mathlib.Omega.{arith}
use Rattle.words.specs.Words.{record_numbers}
use Rattle.records.proofs.Renewing.{overtaken_more}
use Rattle.records.proofs.overtake.Goals as goal

pub loop-a-preserved : goal.loop-a-preserved
loop-a-preserved c =
    (c.loop-a.invariant.0, rw c.store_if.ensures (overtaken_more (omega arith) c.loop-a.invariant.1))

pub returns : goal.returns
returns c =
    let e : c.loop-a.a ≡ record_numbers = omega arith in
    rw e at c.loop-a.invariant.1
