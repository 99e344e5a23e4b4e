-- The layout with what the record holds.
use mathlib.Core.Path.{refl, subst}
use Rattle.settings.specs.declared.Settings.{Settings}
use Rattle.layout.specs.Measure.{More}
use Rattle.records.proofs.lay_next.Goals as goal

pub returns : goal.returns
returns c =
    let a = c.args in
    record {
      t_after = refl;
      more = subst (λ (y : Settings). More a.k 0 y a.l c.more.result) c.held-c.ensures c.more.ensures;
    }
