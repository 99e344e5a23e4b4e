-- In a definite group the octets end with the group.
use mathlib.Core.Path.{◌∙◌}
use Rattle.ahead.specs.Ahead.{reach_of}
use Rattle.ahead.proofs.reach.Goals as goal

pub returns-in-Root : goal.returns-in-Root
unfolding reach_of
returns-in-Root c = simp c.in-Root.is

pub returns-in-Definite : goal.returns-in-Definite
unfolding reach_of
returns-in-Definite c = c.part.ensures ∙ simp (c.left.ensures, c.in-Definite.is)

pub returns-in-Open : goal.returns-in-Open
unfolding reach_of
returns-in-Open c = simp c.in-Open.is
