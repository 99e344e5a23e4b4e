-- By the answer of the question.
use mathlib.Core.Path.{ap, ◌∙◌}
use Rattle.outputs.specs.Outputs.{sample_out}
use Rattle.mfer.proofs.mfer_sample.Goals as goal

pub returns : goal.returns
returns c = c.sampled_out.ensures ∙ ap sample_out c.sample.ensures
