-- Row by row: the first one outside the table decides, and the layout is summed up.
use Rattle.maker.proofs.Channels.{row-there, measuring_first, measuring_next, measuring_outside, measuring_done}
use mathlib.Core.Path.{sym, ◌∙◌}
use Rattle.maker.proofs.rows.measure.Goals as goal

pub loop-index-init : goal.loop-index-init
loop-index-init c = measuring_first c.requires c.none-l.ensures

pub invariant_of-row : goal.invariant_of-row
invariant_of-row c = record { there = row-there c.loop-index.invariant.there _ c.loop-index-test.true }

pub returns-then-not-fits : goal.returns-then-not-fits
returns-then-not-fits c =
    measuring_outside c.loop-index.invariant c.loop-index-test.true (sym c.fits.ensures ∙ c.if-not-fits.true)

pub settings-requires : goal.settings-requires
settings-requires c = sym c.fits.ensures ∙ c.if-not-fits.false

pub loop-index-preserved : goal.loop-index-preserved
loop-index-preserved c =
    measuring_next c.loop-index.invariant c.loop-index-test.true (sym c.fits.ensures ∙ c.if-not-fits.false)
    c.settings.ensures c.more-l.ensures

pub returns : goal.returns
returns c = measuring_done c.loop-index.invariant c.loop-index-test.false
