-- By the tests: null, or what the data type says.
use mathlib.Core.Path.{◌∙◌, ap}
use mathlib.Core.Logic.{inl, inr}
use Rattle.values.proofs.Laws.{null_yes, null_no}
use Rattle.rows.specs.Laying.{shown_as}
use Rattle.rows.proofs.told.Goals as goal
use Rattle.rows.proofs.told.Goals.{else-null-ne0-via-then-null-ne0+else-null-bits, else-null-ne0-via-else-null-ne0}

pub returns-then-null-bits : goal.returns-then-null-bits
returns-then-null-bits c = c.other.ensures ∙ ap shown_as (null_yes _ _ _ c.if-null-ne0.true c.if-null-bits.true)

pub returns : goal.returns
returns c = c.plain.ensures ∙ ap shown_as (null_no _ _ _ (elim c.else-null-ne0.branch [ else-null-ne0-via-then-null-ne0+else-null-bits w ↦ inr w.if-null-bits.false | else-null-ne0-via-else-null-ne0 w ↦ inl w.if-null-ne0.false ]))
