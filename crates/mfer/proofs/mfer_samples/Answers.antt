-- By the answer of the reading.
use mathlib.Core.Path.{ap, ◌∙◌}
use Rattle.outputs.specs.Outputs.{count_out}
use Rattle.mfer.proofs.mfer_samples.Goals as goal

pub returns : goal.returns
returns c =
    record {
      count_after = c.count_out.ensures ∙ ap count_out c.samples.ensures.result_value;
      out_after = c.samples.ensures.out_after;
    }
