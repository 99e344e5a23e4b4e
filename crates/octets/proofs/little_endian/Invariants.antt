-- `octets::little_endian` meets its contract: it reads from the back, and what was read so far is the number of the octets passed.
-- Assumes nothing.
use Prim.Native.Nat.{◌≤◌, ◌<◌, ◌-◌}
use mathlib.Core.Path.{◌≡◌}
use lib.ListN.{length, drop}
use Rattle.octets.specs.Number.{range, little_of}
use Rattle.octets.proofs.little_endian.Given as goal

abbrev pub invariant-loop-b : goal.invariant-loop-b
invariant-loop-b l =
    (length l.yielded ≤ length l.s) × (l.n < range (length l.yielded)) × (l.n ≡ little_of (drop (length l.s - length l.yielded) l.s))
