-- By the answer of the check.
use mathlib.Core.Path.{ap, ◌∙◌}
use Rattle.outputs.specs.Outputs.{count_out}
use Rattle.mfer.proofs.walks.mfer_walk_open.Goals as goal

pub returns : goal.returns
returns c =
    record {
      frames_after = c.checked_out.ensures ∙ ap count_out c.before.before.before.«open».ensures.answers;
      opened = c.before.before.before.«open».ensures.words;
    }
