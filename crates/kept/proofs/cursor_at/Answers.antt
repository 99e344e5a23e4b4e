-- Each number by itself.
use mathlib.Core.Path.{◌∙◌}
use Rattle.items.specs.Walk.{cursor}
use Rattle.kept.specs.Words.{within_by}
use Rattle.kept.proofs.cursor_at.Goals as goal

pub returns : goal.returns
returns c =
    λ i. cursor (c.word-3.ensures i)
    ((c.within_of-within.ensures
    ∙ (λ k. within_by (c.word.ensures k) (c.four_at.ensures k) (c.word-2.ensures k))) i)
