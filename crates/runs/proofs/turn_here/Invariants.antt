-- The samples before the next one are turned round.
use mathlib.Core.Path.{◌≡◌}
use mathlib.Core.List.{◌++◌}
use Prim.Native.Nat.{◌*◌}
use lib.ListN.{drop}
use Rattle.runs.specs.Turned.{turned}
use Rattle.runs.proofs.turn_here.Given as goal

abbrev pub invariant-loop-k : goal.invariant-loop-k
invariant-loop-k l = l.xs ≡ turned l.w l.k l.initial.xs ++ drop (l.k * l.w) l.initial.xs
