-- Both scales, each by its place.
use Rattle.maker.proofs.Channels.{scale_at}
use Rattle.numbers.specs.Numbers.{attribute_numbers}
use Prim.Native.Nat.{◌*◌}
use Rattle.maker.specs.Given.{scale_in_table, scales_in_table}
use Rattle.settings.specs.Settings.{last_interval_unit, last_resolution_unit}
use Rattle.octets.specs.Pick.{both}
use mathlib.Core.Path.{ap, ap₂, ◌∙◌}
use Rattle.maker.proofs.rows.Row.scales_fit.Goals as goal

pub returns : goal.returns
unfolding scales_in_table
returns c =
    let a = c.args in
    let at = a.self.index * attribute_numbers in
    c.all.ensures
    ∙ ap₂ both (c.scale_fits-interval.ensures ∙ ap (scale_in_table last_interval_unit) (scale_at a.self.numbers.now at 7))
    (c.scale_fits-resolution.ensures ∙ ap (scale_in_table last_resolution_unit) (scale_at a.self.numbers.now at 10))
