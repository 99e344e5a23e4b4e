-- As set, or by a division.
use Rattle.framing.proofs.Framings.{sequences-set, sequences_by}
use Rattle.framing.proofs.sequences_of.Goals as goal

pub returns-then-set-ne0 : goal.returns-then-set-ne0
returns-then-set-ne0 c = sequences-set _ _ _ c.if-set-ne0.true

pub returns : goal.returns
returns c = sequences_by _ _ _ c.if-set-ne0.false
