-- The records behind the head are sent back, and the first head is stored.
use native.Mathlib.Omega.{arith}
use Rattle.walking.proofs.Steps.{begun, begun-few}
use Rattle.walking.proofs.begin.Goals as goal

pub returns-then-w-lt-HEAD : goal.returns-then-w-lt-HEAD
returns-then-w-lt-HEAD c = begun-few c.args.w.now (omega arith)

pub returns : goal.returns
returns c = begun c.args.w.now c.clear.new.t (omega arith) c.clear.ensures.long c.keep.ensures c.clear.ensures c.first.ensures c.no_waveform.ensures
