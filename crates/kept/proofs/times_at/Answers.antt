-- Each time by itself.
use Rattle.kept.proofs.times_at.Goals as goal

-- Each time by itself.

pub returns : goal.returns
returns c =
    λ i. record {
      block = c.four_at.ensures i;
      class = c.four_at-2.ensures i;
      lead = c.four_at-3.ensures i;
      datatype = c.four_at-4.ensures i;
      interval = c.four_at-5.ensures i;
      resolution = c.four_at-6.ensures i;
      offset = c.four_at-7.ensures i;
      null = c.four_at-8.ensures i;
    }
