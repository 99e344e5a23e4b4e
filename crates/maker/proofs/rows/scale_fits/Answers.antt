-- Unit, exponent and mantissa, one behind the other.
use Rattle.maker.specs.Given.{scale_in_table}
use Rattle.octets.specs.Pick.{both}
use mathlib.Core.Path.{ap₂, ◌∙◌}
use Rattle.maker.proofs.rows.scale_fits.Goals as goal

pub returns : goal.returns
unfolding scale_in_table
returns c =
    c.all-2.ensures ∙ ap₂ both c.is_within-unit.ensures (c.all.ensures ∙ ap₂ both c.exponent_fits-exponent.ensures c.is_within-mantissa.ensures)
