-- The octets that were read are stored, the last one first.
use mathlib.Core.Path.{◌≡◌}
use Prim.Native.Nat.{◌+◌, ◌-◌}
use lib.Seq.{sets}
use Rattle.runs.proofs.Places.{from_end}
use Rattle.runs.proofs.turn_sample.Given as goal

abbrev pub invariant-loop-k : goal.invariant-loop-k
invariant-loop-k l = l.dst ≡ sets l.initial.dst (l.at + l.w - l.k) (from_end l.src l.from l.k)
