-- By the answer of the length.
use mathlib.Core.Path.{ap, ◌∙◌}
use Rattle.outputs.specs.Outputs.{count_out}
use Rattle.mfer.proofs.mfer_canonical_length.Goals as goal

pub returns : goal.returns
returns c = c.count_out.ensures ∙ ap count_out c.canonical_length.ensures
