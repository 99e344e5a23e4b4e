-- A part as long as the whole goes to its end; in a definite group it ends with the group.
use mathlib.Core.Path.{sym, ap, ◌∙◌}
use Rattle.items.specs.Walk.{extent}
use Rattle.heads.proofs.Heads.{rest-whole}
use Rattle.items.proofs.rest.Goals as goal

pub returns-in-Root : goal.returns-in-Root
returns-in-Root c = c.part.ensures ∙ rest-whole c.args.at c.args.s.now ∙ ap (extent c.args.s.now c.args.at) (sym c.in-Root.is)

pub returns-in-Definite : goal.returns-in-Definite
returns-in-Definite c = c.part-in-Definite.ensures ∙ simp (c.left.ensures, c.in-Definite.is)

pub returns-in-Open : goal.returns-in-Open
returns-in-Open c = c.part-in-Open.ensures ∙ rest-whole c.args.at c.args.s.now ∙ ap (extent c.args.s.now c.args.at) (sym c.in-Open.is)
