-- `stores::put_number` meets its contract. The loop's invariant: the stores still to come give the buffer that is wanted.
use mathlib.Core.Path.{◌≡◌}
use Prim.Native.Nat.{◌+◌, ◌≤◌}
use lib.ListN.{length}
use lib.Seq.{sets}
use Rattle.stores.specs.Number.{be}
use Rattle.stores.proofs.put_number.Given as goal

abbrev pub invariant-loop-i : goal.invariant-loop-i
invariant-loop-i l =
    (l.at + l.w ≤ length l.initial.buf) × (length l.buf ≡ length l.initial.buf) × (sets l.buf l.at (be l.i l.v) ≡ sets l.initial.buf l.at (be l.w l.x))
