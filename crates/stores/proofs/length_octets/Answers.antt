-- `stores::length_octets` meets its contract: each test settles how many octets the length has, by a law of its case.
use mathlib.Core.Path.{sym}
use native.Mathlib.Omega.{arith}
use Rattle.stores.specs.Length.{length_shortest_short, length-shortest-long}
use Rattle.stores.specs.Length.{holding_one, holding_two, holding_three, holding_four}
use Rattle.stores.proofs.length_octets.Goals as goal

pub returns-then-n-lt128 : goal.returns-then-n-lt128
returns-then-n-lt128 c = sym (length_shortest_short _ c.if-n-lt128.true)

pub returns-then-x-lt-ONE_OCTET : goal.returns-then-x-lt-ONE_OCTET
returns-then-x-lt-ONE_OCTET c = omega (arith, length-shortest-long _ c.if-n-lt128.false, holding_one c.args.n (omega arith))

pub returns-then-x-lt-TWO_OCTETS : goal.returns-then-x-lt-TWO_OCTETS
returns-then-x-lt-TWO_OCTETS c =
    omega (arith, length-shortest-long _ c.if-n-lt128.false, holding_two c.args.n (omega arith) (omega arith))

pub returns-then-x-lt-THREE_OCTETS : goal.returns-then-x-lt-THREE_OCTETS
returns-then-x-lt-THREE_OCTETS c =
    omega (arith, length-shortest-long _ c.if-n-lt128.false, holding_three c.args.n (omega arith) (omega arith))

pub returns : goal.returns
returns c =
    omega (arith, length-shortest-long _ c.if-n-lt128.false, holding_four c.args.n (omega arith))
