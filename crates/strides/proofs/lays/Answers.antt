-- By the tests one after the other.
use mathlib.Core.Path.{sym, ◌∙◌}
use Rattle.strides.proofs.lays.Goals as goal

pub returns-then-among-2 : goal.returns-then-among-2
returns-then-among-2 c =
    simp (sym c.among.ensures ∙ c.if-among.true, sym c.there.ensures, sym c.among-then-among.ensures ∙ c.if-among-2.true, c.lies.ensures)

pub returns-else-among-2 : goal.returns-else-among-2
returns-else-among-2 c =
    simp (sym c.among.ensures ∙ c.if-among.true, sym c.there.ensures, sym c.among-then-among.ensures ∙ c.if-among-2.false)

pub returns-else-among : goal.returns-else-among
returns-else-among c = simp (sym c.among.ensures ∙ c.if-among.false)
