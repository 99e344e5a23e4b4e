-- Row by row: the first one outside the table decides, and the layout is summed up.
use Rattle.maker.proofs.Channels.{Measuring}
use Rattle.maker.proofs.rows.measure.Given as goal

abbrev pub invariant-loop-index : goal.invariant-loop-index
invariant-loop-index l = Measuring l.n l.numbers l.bits l.index l.l
