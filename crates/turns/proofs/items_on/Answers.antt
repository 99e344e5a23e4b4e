-- Nothing, or whole items.
use Rattle.turns.proofs.Laws.{items-none, items_run}
use native.Mathlib.Omega.{arith}
use Rattle.turns.proofs.items_on.Goals as goal

pub returns-then-x-ne0 : goal.returns-then-x-ne0
returns-then-x-ne0 c = items-none c.args.x c.args.p c.args.t.now c.args.u.now c.none.ensures

pub returns-then-c-x : goal.returns-then-c-x
returns-then-c-x c = items-none c.args.x c.args.p c.args.t.now c.args.u.now c.none-then-c-x.ensures

pub returns : goal.returns
returns c = items_run c.args.x c.args.p c.args.t.now c.args.u.now c.requires (omega arith) (omega arith) c.items-a.ensures c.told_behind-frame.ensures
