-- The smaller of the two.
use native.Mathlib.Omega.{arith}
use Rattle.words.proofs.Laws.{records-long}
use Rattle.records.proofs.at_most.Goals as goal

pub returns : goal.returns
returns c = omega (arith, c.min.ensures, c.at_most.ensures, records-long c.args.t.now)
