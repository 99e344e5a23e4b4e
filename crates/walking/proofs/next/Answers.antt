-- By the test: nothing is stored, or where the walk has come to.
use native.Mathlib.Omega.{arith}
use Rattle.walking.proofs.Steps.{goes-few, goes_on}
use Rattle.walking.proofs.next.Goals as goal

pub returns-then-w-lt-HEAD : goal.returns-then-w-lt-HEAD
returns-then-w-lt-HEAD c =
    let a = c.args in
    goes-few a.s.now a.w.now (omega arith)

pub returns : goal.returns
returns c =
    let a = c.args in
    let x = c.advance-m.new.t in
    let went = c.advance-m.ensures in
    goes_on a.w.now x (omega arith) went.long c.keep.ensures went c.head_at-h.ensures c.frame_told.ensures
