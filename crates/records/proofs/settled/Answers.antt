-- The record, brought up to date.
use mathlib.Core.Path.{ap, ◌∙◌}
use Rattle.dated.specs.Dated.{settled_at}
use Rattle.records.proofs.settled.Goals as goal

pub returns : goal.returns
returns c = c.settle.ensures ∙ ap (settled_at _ _) c.get.ensures
