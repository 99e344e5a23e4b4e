-- By the answer of the question.
use mathlib.Core.Path.{ap, ◌∙◌}
use Rattle.outputs.specs.Outputs.{attributes_out}
use Rattle.mfer.proofs.mfer_attributes.Goals as goal

pub returns : goal.returns
returns c = c.described_out.ensures ∙ ap attributes_out c.describe.ensures
