-- A product of two numbers of 32 bits tells whether all sequences are in the waveform.
use mathlib.Core.Path.{◌∙◌}
use Rattle.spread.proofs.Counting.{counted-whole}
use Rattle.spread.proofs.Spread.there.Goals as goal

pub returns-then-from-self : goal.returns-then-from-self
returns-then-from-self c = c.count.ensures ∙ counted-whole c.args.self c.if-self-gt0.true (rw c.from.ensures at c.if-from-self.true)
