-- The head alone, where it has come to; its octets are octets.
use Rattle.arriving.proofs.Laws.{seen_by}
use Rattle.arriving.proofs.seen.Goals as goal

pub returns : goal.returns
returns c = seen_by c.args.within c.args.count c.args.u.now (λ i. (c.type_inv.u i).fits) c.is_inside.ensures c.item_form.ensures c.seen_in.ensures
