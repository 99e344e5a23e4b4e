-- By what is around.
use Rattle.arriving.proofs.Laws.{after_mark, after_member}
use Rattle.std.proofs.Common.{sym, ap}
use Rattle.items.specs.declared.Within.{Within}
use Rattle.link.specs.Link.{within_after}
use Rattle.arriving.proofs.within_after.Goals as goal

pub returns-then-ends_open : goal.returns-then-ends_open
returns-then-ends_open c = after_mark 0 c.args.tag c.args.len _ _ c.in-Open.is c.ends_open.ensures c.if-ends_open.true

pub returns-in-Root : goal.returns-in-Root
unfolding within_after
returns-in-Root c = ap (λ (w : Within). within_after w c.args.tag c.args.len) (sym c.in-Root.is)

pub returns-in-Definite : goal.returns-in-Definite
unfolding within_after
returns-in-Definite c = ap (λ (w : Within). within_after w c.args.tag c.args.len) (sym c.in-Definite.is)

pub returns-else-ends_open : goal.returns-else-ends_open
returns-else-ends_open c = after_member 0 c.args.tag c.args.len _ _ c.in-Open.is c.ends_open.ensures c.if-ends_open.false
