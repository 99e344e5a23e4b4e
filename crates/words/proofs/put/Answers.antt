-- By the test: nothing is stored, or the record's words at its place.
use native.Mathlib.Omega.{arith}
use Rattle.words.proofs.Laws.{holding-none, holding_put}
use Rattle.words.proofs.put.Goals as goal

pub returns-then-t-k : goal.returns-then-t-k
returns-then-t-k c =
    let a = c.args in
    holding-none a.t.now a.k a.x (omega arith)

pub returns : goal.returns
returns c =
    let a = c.args in
    holding_put a.t.now a.k a.x (omega arith) c.overlay.ensures c.words_of.ensures
