-- Null comes first.
use mathlib.Core.Path.{◌∙◌}
use mathlib.Core.Logic.{inl, inr}
use Rattle.values.proofs.Told.{told_null, told_number}
use Rattle.values.proofs.Meaning.tell.Goals as goal
use Rattle.values.proofs.Meaning.tell.Goals.{then-missing-ne0+else-missing-bits, else-missing-ne0}

pub returns-then-missing-bits : goal.returns-then-missing-bits
returns-then-missing-bits c =
    told_null c.args.self _ c.if-missing-ne0.true c.if-missing-bits.true

pub returns : goal.returns
returns c =
    c.number.ensures
    ∙ told_number c.args.self _
    (elim c.if-missing-ne0.branch [
      | then-missing-ne0+else-missing-bits w ↦ inr w.if-missing-bits.false
      | else-missing-ne0 w ↦ inl w.if-missing-ne0.false
    ])
