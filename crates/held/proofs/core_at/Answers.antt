-- Each number by itself.
use Rattle.held.proofs.core_at.Goals as goal

pub returns : goal.returns
returns c =
    λ i. record {
      count = c.word.ensures i;
      around = c.word-2.ensures i;
      held = c.held_at.ensures i;
      stage = c.stage_at-stage.ensures i;
    }
