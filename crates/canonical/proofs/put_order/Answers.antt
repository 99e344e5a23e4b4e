-- Two stores, one behind the other.
use Rattle.canonical.proofs.Writing.{head_put}
use Rattle.canonical.proofs.put_order.Goals as goal

pub returns : goal.returns
returns c = head_put c.requires c.put_two-a.ensures c.put_octet.ensures
