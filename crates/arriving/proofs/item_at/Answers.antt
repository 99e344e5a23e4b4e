-- By what is around.
use Rattle.arriving.proofs.Laws.{item_mark, item_member}
use Rattle.std.proofs.Common.{sym, ap}
use Rattle.items.specs.declared.Within.{Within}
use Rattle.link.specs.Link.{item_at}
use Rattle.arriving.proofs.item_at.Goals as goal

pub returns-then-ends_open : goal.returns-then-ends_open
returns-then-ends_open c = item_mark c.args.at c.args.tag c.args.len _ _ c.in-Open.is c.ends_open.ensures c.if-ends_open.true

pub returns-in-Root : goal.returns-in-Root
unfolding item_at
returns-in-Root c = ap (λ (w : Within). item_at w c.args.at c.args.tag c.args.len) (sym c.in-Root.is)

pub returns-in-Definite : goal.returns-in-Definite
unfolding item_at
returns-in-Definite c = ap (λ (w : Within). item_at w c.args.at c.args.tag c.args.len) (sym c.in-Definite.is)

pub returns-else-ends_open : goal.returns-else-ends_open
returns-else-ends_open c = item_member c.args.at c.args.tag c.args.len _ _ c.in-Open.is c.ends_open.ensures c.if-ends_open.false
