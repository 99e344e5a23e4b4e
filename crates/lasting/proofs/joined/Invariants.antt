-- The loop's invariant: the octets before a stand behind those that were kept.
use Rattle.lasting.proofs.Laws.{Behind}
use mathlib.Core.Path.{◌≡◌}
use Prim.Native.Nat.{◌-◌, ◌≤◌, min}
use lib.ListN.{length}
use Rattle.link.specs.Link.{kept_limit}
use Rattle.lasting.proofs.joined.Given as goal

abbrev pub invariant-loop-a : goal.invariant-loop-a
invariant-loop-a l = (l.n ≤ kept_limit) × (l.m ≡ min (length l.u) (kept_limit - l.n)) × (l.a ≤ l.m) × Behind l.initial.r l.n l.u l.a l.r

abbrev pub decreases-loop-a : goal.decreases-loop-a
decreases-loop-a l = l.m - l.a
