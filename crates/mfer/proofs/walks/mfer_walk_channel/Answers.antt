-- By the channel that is looked up.
use mathlib.Core.Path.{ap, ◌∙◌}
use Rattle.outputs.specs.Walks.{channel_out}
use Rattle.mfer.proofs.walks.mfer_walk_channel.Goals as goal

pub returns : goal.returns
returns c = c.looked_up_out.ensures ∙ ap channel_out c.view_at.ensures
