-- By what is left.
use Rattle.arriving.proofs.Laws.{none_left, some_left}
use Rattle.std.proofs.Common.{◌≡◌, arith}
use Rattle.held.specs.declared.Stage.{Stage}
use Rattle.arriving.proofs.waved.Goals as goal

pub returns-then-left-eq0 : goal.returns-then-left-eq0
returns-then-left-eq0 c = none_left c.args.left Stage.Head (Stage.Waveform c.args.left 0 0 0) (omega arith)

pub returns : goal.returns
returns c = some_left c.args.left Stage.Head (Stage.Waveform c.args.left 0 0 0) (λ (z : c.args.left ≡ 0). omega arith)
