-- Each number by its place in the row.
use Rattle.maker.specs.Given.{numbers_in_table}
use Rattle.octets.specs.Pick.{both}
use mathlib.Core.Path.{ap₂, ◌∙◌}
use Rattle.maker.proofs.rows.Row.numbers_fit.Goals as goal

pub returns : goal.returns
unfolding numbers_in_table
returns c =
    let codes = c.all.ensures ∙ ap₂ both c.is_within-lead.ensures c.is_within-datatype.ensures in
    c.all-3.ensures ∙ ap₂ both c.is_within-block.ensures (c.all-2.ensures ∙ ap₂ both c.is_within-class.ensures codes)
