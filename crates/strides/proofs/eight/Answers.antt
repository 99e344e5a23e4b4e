-- The octets at the place make the sample's bits, from the front or from the back.
use mathlib.Core.Path.{refl}
use native.Mathlib.Omega.{arith}
use Rattle.octets.specs.Number.{big_from}
use Rattle.octets.proofs.Octets.{here_big, here-little}
use Rattle.strides.proofs.eight.Goals as goal

pub returns-then-little : goal.returns-then-little
unfolding big_from
returns-then-little c = here-little 7 _ _ c.requires c.if-little.true refl (omega (arith, c.from_le_bytes.ensures))

pub returns : goal.returns
unfolding big_from
returns c = here_big 7 _ _ c.requires c.if-little.false (omega (arith, c.from_be_bytes.ensures))
