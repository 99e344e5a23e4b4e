-- What is around the place decides which stretch there may be.
use mathlib.Core.Path.{refl, sym, ◌∙◌}
use Rattle.ahead.proofs.Laws.{goes_none, reach_in, reach_of_lem}
use Rattle.ahead.proofs.stretched.Goals as goal

pub returns-then-u-eq0 : goal.returns-then-u-eq0
returns-then-u-eq0 c = goes_none _ _ _ _ c.none.ensures

pub returns-then-not-stepped_over : goal.returns-then-not-stepped_over
returns-then-not-stepped_over c = goes_none _ _ _ _ c.none-then-not-stepped_over.ensures

pub along_root-requires : goal.along_root-requires
along_root-requires c =
    record {
      u_bound = c.requires;
      within_value = sym c.stands_in-within.ensures ∙ c.in-Root.is;
    }

pub along_group-requires : goal.along_group-requires
along_group-requires c =
    let w = sym c.in-Definite.is ∙ c.stands_in-within.ensures in
    let e = reach_in _ c.args.h c.requires w c.reach.ensures in
    record {
      u_bound = e.0;
      fits = e.1;
      within_value = w;
      in_group = refl;
    }

pub along_group-requires-in-Open : goal.along_group-requires-in-Open
along_group-requires-in-Open c =
    let w = sym c.in-Open.is ∙ c.stands_in-within.ensures in
    let e = reach_in _ c.args.h c.requires w c.reach-in-Open.ensures in
    record {
      u_bound = e.0;
      fits = e.1;
      within_value = w;
      in_group = refl;
    }

pub returns-in-Root : goal.returns-in-Root
returns-in-Root c = c.along_root.ensures _

pub returns-in-Definite : goal.returns-in-Definite
returns-in-Definite c =
    reach_of_lem (sym c.in-Definite.is ∙ c.stands_in-within.ensures) c.reach.ensures c.along_group.ensures

pub returns-in-Open : goal.returns-in-Open
returns-in-Open c =
    reach_of_lem (sym c.in-Open.is ∙ c.stands_in-within.ensures) c.reach-in-Open.ensures c.along_group-in-Open.ensures
