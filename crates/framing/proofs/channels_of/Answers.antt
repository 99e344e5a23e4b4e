-- Each way out is what its tests say.
use borrow.Author.Tests.{eq-eqb, ne_eqb}
use Rattle.framing.specs.Framing.{channels_of}
use Rattle.framing.proofs.channels_of.Goals as goal

pub returns-then-counted-eq0 : goal.returns-then-counted-eq0
unfolding channels_of
returns-then-counted-eq0 c = simp (eq-eqb _ 0 c.if-counted-eq0.true)

pub returns-else-counted-eq0 : goal.returns-else-counted-eq0
unfolding channels_of
returns-else-counted-eq0 c = simp (ne_eqb _ 0 c.if-counted-eq0.false)
