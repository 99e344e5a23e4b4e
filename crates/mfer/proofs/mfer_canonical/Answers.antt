-- By the answer of the writer.
use mathlib.Core.Path.{ap, ◌∙◌}
use Rattle.outputs.specs.Outputs.{count_out}
use Rattle.mfer.proofs.mfer_canonical.Goals as goal

pub returns : goal.returns
returns c =
    let w = c.write_canonical.ensures in
    record { octets = w.octets; answers = c.count_out.ensures ∙ ap count_out w.answers; leaves = w.leaves }
