-- A block's octets are a product of a number of 32 bits and a width.
use Prim.Native.Nat.{◌≤◌}
use native.Mathlib.Nat.{mul-le-mul}
use native.Mathlib.Omega.{arith}
use Rattle.values.proofs.Laws.{width_le}
use Rattle.spread.proofs.Spread.lies.Goals as goal

pub overflow_mul-from : goal.overflow_mul-from
overflow_mul-from c =
    let a = c.args.self in
    let p : c.from.result ≤ 4294967295 = omega arith in
    let q : c.width-w.result ≤ 8 = omega (arith, c.width-w.ensures, width_le a.datatype) in
    omega (arith, mul-le-mul p q)
