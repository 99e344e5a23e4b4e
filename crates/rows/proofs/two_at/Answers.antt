-- The octets at the place make the number, from the front or from the back.
use mathlib.Core.Path.{refl}
use Prim.Native.Nat.{◌+◌}
use native.Mathlib.Omega.{arith}
use Rattle.octets.specs.Number.{big_from}
use Rattle.octets.proofs.Octets.{here_big, here-little}
use Rattle.rows.proofs.two_at.Goals as goal

pub returns-then-little : goal.returns-then-little
unfolding big_from
returns-then-little c =
    let a = c.args in
    let octet = c.type_inv.u in
    (here-little 1 _ _ c.requires c.if-little.true refl c.two_octets.ensures, omega (arith, c.two_octets.ensures, octet a.i, octet (a.i + 1)))

pub returns : goal.returns
unfolding big_from
returns c =
    let a = c.args in
    let octet = c.type_inv.u in
    (here_big 1 _ _ c.requires c.if-little.false c.two_octets-2.ensures, omega (arith, c.two_octets-2.ensures, octet a.i, octet (a.i + 1)))
