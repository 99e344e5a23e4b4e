-- The bits are looked at where the data type is in the table.
use Rattle.maker.specs.Given.{in_table}
use mathlib.Core.Path.{sym, ap₂, ◌∙◌}
use Rattle.octets.specs.Pick.{both}
use Rattle.maker.proofs.rows.Row.fits.Goals as goal

pub returns-then-not-numbers_fit : goal.returns-then-not-numbers_fit
unfolding in_table
returns-then-not-numbers_fit c = sym (rw (sym c.numbers_fit.ensures ∙ c.if-not-numbers_fit.true))

pub bits_within-within-requires : goal.bits_within-within-requires
bits_within-within-requires c =
    sym c.numbers_fit.ensures ∙ c.if-not-numbers_fit.false

pub returns : goal.returns
unfolding in_table
returns c =
    let numbers = sym c.numbers_fit.ensures ∙ c.if-not-numbers_fit.false in
    c.all.ensures ∙ rw numbers (ap₂ both c.scales_fit-scales.ensures c.bits_within-within.ensures)
