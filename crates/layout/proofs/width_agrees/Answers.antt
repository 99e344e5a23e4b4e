-- Each way out is what its tests say.
use Rattle.std.proofs.Common.{eq-eqb, ne_eqb}
use Rattle.layout.specs.Frame.{width_agrees}
use Rattle.layout.proofs.width_agrees.Goals as goal

pub returns-then-b-eq0 : goal.returns-then-b-eq0
unfolding width_agrees
returns-then-b-eq0 c = simp (eq-eqb _ 0 c.if-b-eq0.true)

pub returns-else-b-eq0 : goal.returns-else-b-eq0
unfolding width_agrees
returns-else-b-eq0 c =
    simp (ne_eqb _ 0 c.if-b-eq0.false)
