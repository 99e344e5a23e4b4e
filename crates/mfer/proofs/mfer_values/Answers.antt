-- By the answer of the reading.
use mathlib.Core.Path.{ap, ◌∙◌}
use Rattle.outputs.specs.Outputs.{count_out}
use Rattle.mfer.proofs.mfer_values.Goals as goal

pub returns : goal.returns
returns c =
    record {
      count_after = c.count_out.ensures ∙ ap count_out c.values.ensures.result_value;
      kinds_after = c.values.ensures.kinds_after;
      wholes_after = c.values.ensures.wholes_after;
    }
