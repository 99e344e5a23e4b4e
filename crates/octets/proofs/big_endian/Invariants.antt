-- `octets::big_endian` meets its contract: what was read so far, with the octets that are left after it, always gives the number
-- of all octets. Assumes nothing.
use Prim.Native.Nat.{◌<◌}
use mathlib.Core.Path.{◌≡◌}
use lib.ListN.{drop}
use Rattle.octets.specs.Number.{range, big_from}
use Rattle.octets.proofs.big_endian.Given as goal

abbrev pub invariant-loop-b : goal.invariant-loop-b
invariant-loop-b l = (l.n < range l.b-index) × (big_from l.n (drop l.b-index l.s) ≡ big_from 0 l.s)
