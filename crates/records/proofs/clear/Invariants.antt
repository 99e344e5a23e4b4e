-- The loop's invariant: the times of the records before k are 0.
use mathlib.Core.Path.{◌≡◌}
use Rattle.words.specs.Words.{records_held}
use Rattle.records.proofs.Laws.{Clearing}
use Rattle.records.proofs.clear.Given as goal

abbrev pub invariant-loop-k : goal.invariant-loop-k
invariant-loop-k l = (l.n ≡ records_held l.initial.t) × Clearing l.initial.t l.k l.t
