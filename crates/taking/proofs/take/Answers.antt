-- Each effect has its law.
use Rattle.std.specs.Prelude.{Ok}
use Rattle.std.proofs.Common.{ap, ◌∙◌, refl, rules}
use Rattle.effects.specs.declared.Effect.{Effect}
use Rattle.taking.proofs.Laws.{plain_takes, count_takes, all_takes, one_takes, refused_takes, takes_as}
use Rattle.taking.proofs.take.Goals as goal

pub returns-in-Count : goal.returns-in-Count
returns-in-Count c = takes_as c.in-Ok.is (count_takes c.leads_on.ensures c.standing_after-after.ensures (ap (λ (e : Effect). Ok e) c.in-Count.is) c.cleared.ensures)

pub returns-in-All : goal.returns-in-All
returns-in-All c = takes_as c.in-Ok.is (all_takes c.leads_on-in-All.ensures c.standing_after-after-in-All.ensures (ap (λ (e : Effect). Ok e) c.in-All.is) c.defined.ensures)

pub returns-in-One : goal.returns-in-One
returns-in-One c = takes_as c.in-Ok.is (one_takes c.leads_on-in-One.ensures (ap (λ (e : Effect). Ok e) c.in-One.is) c.settled-stood.ensures c.apply.ensures c.note.ensures c.put.ensures)

pub returns-in-Frame : goal.returns-in-Frame
returns-in-Frame c = takes_as (c.in-Ok.is ∙ ap (λ (e : Effect). Ok e) c.in-Frame.is) c.frames.ensures

pub returns-in-Err : goal.returns-in-Err
returns-in-Err c = refused_takes c.stops_at.ensures c.in-Err.is

pub returns-in_default : goal.returns-in_default
returns-in_default c = takes_as c.in-Ok.is (plain_takes c.leads_on-in_default.ensures c.standing_after-after-in_default.ensures refl refl (search rules))
