-- By what is left.
use Rattle.arriving.proofs.Laws.{none_left, some_left}
use Rattle.std.proofs.Common.{◌≡◌, ◌∙◌, arith}
use Rattle.held.specs.declared.Stage.{Stage}
use Rattle.arriving.specs.Arriving.{core, link_with, in_stage}
use Rattle.arriving.proofs.at_sample.Goals as goal

pub returns-then-left-eq0 : goal.returns-then-left-eq0
returns-then-left-eq0 c = c.in_stage.ensures ∙ none_left c.args.left (in_stage Stage.Head c.args.x) (link_with (core c.args.x.core.count c.args.x.core.around c.args.held (Stage.Waveform c.args.left c.args.at.sequence c.args.at.channel c.args.at.index)) c.args.x.head c.args.x.frame) (omega arith)

pub returns : goal.returns
returns c = some_left c.args.left (in_stage Stage.Head c.args.x) (link_with (core c.args.x.core.count c.args.x.core.around c.args.held (Stage.Waveform c.args.left c.args.at.sequence c.args.at.channel c.args.at.index)) c.args.x.head c.args.x.frame) (λ (z : c.args.left ≡ 0). omega arith)
