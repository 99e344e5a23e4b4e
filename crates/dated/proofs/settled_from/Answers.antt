-- Each attribute by itself.
use Rattle.dated.proofs.settled_from.Goals as goal

pub returns : goal.returns
returns c =
    λ k. record {
      block = c.either.ensures k;
      class = c.either-2.ensures k;
      lead = c.either-3.ensures k;
      datatype = c.either-4.ensures k;
      interval = c.either-5.ensures k;
      resolution = c.either-6.ensures k;
      offset = c.either-7.ensures k;
      null = c.either-8.ensures k;
    }
