-- By whether octets were taken.
use Rattle.turns.proofs.Laws.{told_none, told_some}
use native.Mathlib.Omega.{arith}
use Rattle.turns.proofs.told_behind.Goals as goal

pub returns-then-taken-eq0 : goal.returns-then-taken-eq0
returns-then-taken-eq0 c = told_none c.args.taken c.args.v (omega arith)

pub returns : goal.returns
returns c = told_some c.args.taken c.args.v (λ z. omega arith) c.no_waveform.ensures
