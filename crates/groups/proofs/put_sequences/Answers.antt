-- No octets or four, by the test.
use Rattle.groups.proofs.Puts.{sequences-none, sequences-some}
use Rattle.groups.proofs.put_sequences.Goals as goal

pub returns-then-sequences-eq0 : goal.returns-then-sequences-eq0
returns-then-sequences-eq0 c = rw (sequences-none _ c.if-sequences-eq0.true) c.put_two.ensures

pub returns : goal.returns
returns c = rw (sequences-some _ c.if-sequences-eq0.false) (rw c.from.ensures at c.put_field.ensures)
