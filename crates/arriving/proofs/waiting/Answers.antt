-- By what is left.
use Rattle.std.specs.Prelude.{Err}
use Rattle.std.proofs.Common.{◌∙◌, arith}
use Rattle.held.specs.declared.Stage.{Stage}
use Rattle.arriving.specs.Arriving.{in_stage}
use Rattle.arriving.proofs.Laws.{none_left, some_left}
use Rattle.arriving.proofs.waiting.Goals as goal

pub returns-then-left-eq0 : goal.returns-then-left-eq0
returns-then-left-eq0 c = c.in_stage.ensures ∙ none_left c.args.left (in_stage (Stage.Decided (Err c.args.r)) c.args.x) (in_stage (Stage.Waits c.args.left c.args.r) c.args.x) (omega arith)

pub returns : goal.returns
returns c = c.in_stage-2.ensures ∙ some_left c.args.left (in_stage (Stage.Decided (Err c.args.r)) c.args.x) (in_stage (Stage.Waits c.args.left c.args.r) c.args.x) (λ z. omega arith)
