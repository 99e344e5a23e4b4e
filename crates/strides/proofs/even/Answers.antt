-- By the two tests; a block has fewer than 2^32 samples of at most eight octets.
use mathlib.Core.Path.{refl}
use mathlib.Core.Logic.{inl, inr}
use Prim.Native.Nat.{◌≤◌}
use native.Mathlib.Nat.{mul-le-mul}
use native.Mathlib.Omega.{arith}
use Rattle.strides.proofs.Walks.{wide-small}
use Rattle.strides.proofs.even.Goals as goal

pub returns-then-b-eq1 : goal.returns-then-b-eq1
returns-then-b-eq1 c = inr (inl (c.if-b-eq1.true, refl))

pub overflow_mul-b : goal.overflow_mul-b
overflow_mul-b c =
    let b : c.args.b ≤ 4294967295 = omega arith in
    omega (arith, mul-le-mul b (wide-small c.requires))

pub returns-then-b-w : goal.returns-then-b-w
returns-then-b-w c = inr (inr (c.if-b-w.true, refl))

pub returns : goal.returns
returns c = inl refl
