-- Summed up channel by channel.
use Prim.Native.Nat.{◌≤◌}
use lib.ListN.{length}
use Rattle.layout.proofs.Laws.{Summing}
use Rattle.words.specs.Words.{records_in, held_in}
use Rattle.records.proofs.layout_in.Given as goal

abbrev pub invariant-loop-i : goal.invariant-loop-i
invariant-loop-i l = (l.n ≤ length (records_in l.t)) × Summing 0 (held_in l.t) l.n l.i l.l
