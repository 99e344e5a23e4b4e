-- What is kept with the channel's record.
use Rattle.strides.proofs.spread_at.Goals as goal

pub returns : goal.returns
returns c =
    let q = c.args.q in
    λ i. record {
      sequences = q.count;
      little = q.little;
      place = q.place;
      long = q.long;
      octets = q.octets;
      below = c.below.ensures i;
      block = (c.held-c.ensures i).block;
      datatype = (c.held-c.ensures i).datatype;
    }
