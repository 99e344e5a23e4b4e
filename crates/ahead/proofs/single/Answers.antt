-- The octets at hand end with the definite group around.
use Rattle.ahead.proofs.Laws.{reach_of_lem, reach_in}
use Rattle.ahead.proofs.single.Goals as goal

pub item_in-requires : goal.item_in-requires
item_in-requires c =
    let told = reach_in _ c.args.h c.requires c.stands_in.ensures c.reach.ensures in
    record {
      u_bound = told.0;
      fits = told.1;
    }

pub returns : goal.returns
returns c =
    reach_of_lem c.stands_in.ensures c.reach.ensures c.item_in.ensures
