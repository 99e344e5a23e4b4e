-- Each number by itself.
use Rattle.held.specs.Words.{noted}
use Rattle.held.proofs.refusal_at.Goals as goal

pub returns : goal.returns
returns c = λ i. noted (c.one_at.ensures i) (c.word.ensures i)
