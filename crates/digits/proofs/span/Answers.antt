-- `digits::span` meets its contract: eight bits are an octet, by `range-bits`. Assumes nothing.
use Prim.Native.Nat.{◌≤◌, ◌*◌, ◌^◌}
use native.Mathlib.Omega.{arith}
use lib.Pow.{pow_mono}
use Rattle.octets.proofs.Laws.{range-bits}
use Rattle.digits.proofs.span.Goals as goal

pub returns : goal.returns
returns c =
    let e : 8 * c.args.w ≤ 56 = omega arith in
    let f : 2 ^ (8 * c.args.w) ≤ 2 ^ 56 = pow_mono e in
    rw (range-bits c.args.w) (omega arith)
