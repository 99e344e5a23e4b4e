-- The loop's invariant: the words before a are taken over.
use Prim.Native.Nat.{◌+◌, ◌≤◌}
use lib.ListN.{length}
use Rattle.words.specs.Words.{record_numbers}
use Rattle.records.specs.Records.{Overtaken}
use Rattle.records.proofs.overtake.Given as goal

abbrev pub invariant-loop-a : goal.invariant-loop-a
invariant-loop-a l = (l.i + record_numbers ≤ length l.initial.t) × Overtaken l.initial.t l.i l.w l.since l.from l.a l.t
