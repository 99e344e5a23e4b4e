-- `line::put_text` meets its contract: all of the text is copied.
use lib.Seq.{take-length}
use Rattle.line.proofs.put_text.Goals as goal

pub returns : goal.returns
returns c = rw take-length at c.copy.ensures
