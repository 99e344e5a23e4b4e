-- Where both factors are below 32 bits by their product, else by how many sequences fit in.
use Prim.Native.Nat.{◌≤◌}
use native.Mathlib.Nat.{mul-le-mul}
use native.Mathlib.Omega.{arith}
use Rattle.sizes.proofs.Laws.{held_by}
use Rattle.sizes.proofs.holds.Goals as goal

pub overflow_mul-result : goal.overflow_mul-result
overflow_mul-result c =
    let a = c.args in
    let p : a.sequences ≤ 4294967295 = omega arith in
    let q : a.octets ≤ 4294967295 = omega (arith, c.if-octets-lt-FOUR_OCTETS.true) in
    omega (arith, mul-le-mul p q)

pub returns : goal.returns
returns c = held_by c.args.sequences c.args.octets _ (λ e. omega (arith, c.if-octets-lt-FOUR_OCTETS.false))
