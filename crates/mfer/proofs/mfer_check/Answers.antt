-- By the answer of the check.
use mathlib.Core.Path.{ap, ◌∙◌}
use Rattle.outputs.specs.Outputs.{count_out}
use Rattle.mfer.proofs.mfer_check.Goals as goal

pub returns : goal.returns
returns c = c.checked_out.ensures ∙ ap count_out c.check.ensures
