-- By what is around.
use Rattle.arriving.proofs.Laws.{seen_root, seen_definite, seen_open}
use Rattle.arriving.proofs.seen_in.Goals as goal

pub returns-in-Root : goal.returns-in-Root
returns-in-Root c = seen_root c.args.count c.args.form c.in-Root.is

pub returns-in-Definite : goal.returns-in-Definite
returns-in-Definite c = seen_definite c.args.count c.args.form _ _ c.in-Definite.is c.between.ensures c.confined.ensures

pub returns-in-Open : goal.returns-in-Open
returns-in-Open c = seen_open c.args.count c.args.form c.in-Open.channel c.in-Open.place c.in-Open.is
