-- By the test.
use Rattle.records.proofs.store_if.Goals as goal

pub returns-then-yes : goal.returns-then-yes
returns-then-yes c = simp c.if-yes.true
