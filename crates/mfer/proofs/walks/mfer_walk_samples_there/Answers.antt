-- By how many are there.
use mathlib.Core.Path.{ap, ◌∙◌}
use Rattle.outputs.specs.Outputs.{count_out}
use Rattle.mfer.proofs.walks.mfer_walk_samples_there.Goals as goal

pub returns : goal.returns
returns c = c.count_out.ensures ∙ ap count_out c.there.ensures
