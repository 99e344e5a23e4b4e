-- By what is around the place behind the item, and around the item.
use mathlib.Core.Path.{sym, ◌∙◌}
use Rattle.ahead.proofs.around_at.Goals as goal

pub returns-in-Root : goal.returns-in-Root
returns-in-Root c = simp (sym c.stands_in.ensures ∙ c.in-Root.is)

pub returns-in-Root-within : goal.returns-in-Root-within
returns-in-Root-within c = simp (sym c.stands_in.ensures ∙ c.in-Definite.is, c.in-Root-within.is)

pub returns-in-Definite-within : goal.returns-in-Definite-within
returns-in-Definite-within c = simp (sym c.stands_in.ensures ∙ c.in-Definite.is, c.in-Definite-within.is)

pub returns-in-Open-within : goal.returns-in-Open-within
returns-in-Open-within c = simp (sym c.stands_in.ensures ∙ c.in-Definite.is, c.in-Open-within.is)

pub returns-in-Open : goal.returns-in-Open
returns-in-Open c = simp (sym c.stands_in.ensures ∙ c.in-Open.is)
