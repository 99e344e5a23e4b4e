-- By what the octet gives out.
use Rattle.turns.proofs.Laws.{turn_nothing, turn_full, turn_given}
use mathlib.Core.Path.{refl}
use Rattle.turns.proofs.single.Goals as goal

pub returns-in-Nothing : goal.returns-in-Nothing
returns-in-Nothing c = turn_nothing c.args.x c.args.p c.args.t.now c.args.u.now c.args.out.now _ refl c.requires.0 c.requires.1 c.in-Nothing.is c.gives.ensures c.octet_on.ensures

pub returns-in-Full : goal.returns-in-Full
returns-in-Full c = turn_full c.args.x c.args.p c.args.t.now c.args.u.now c.args.out.now _ refl c.requires.0 c.requires.1 c.in-Full.is c.gives.ensures c.none.ensures

pub returns-in-Given : goal.returns-in-Given
returns-in-Given c = turn_given c.args.x c.args.p c.args.t.now c.args.u.now c.args.out.now _ refl c.requires.0 c.requires.1 c.in-Given.is c.gives.ensures c.octet_on-in-Given.ensures
