-- Summed up channel by channel.
use mathlib.Core.Path.{sym, subst, ◌∙◌}
use native.Mathlib.Omega.{arith}
use Rattle.settings.specs.declared.Settings.{Settings}
use Rattle.settings.specs.Settings.{zero_settings}
use Rattle.dated.specs.Dated.{zero_dated}
use Rattle.dated.proofs.Refreshed.{held-long, held_at}
use Rattle.layout.specs.Measure.{More}
use Rattle.layout.proofs.Laws.{summing_start, summing_more}
use Rattle.words.specs.Words.{records_in}
use Rattle.records.proofs.Channels.{channels-few, laid_out}
use Rattle.records.proofs.layout_in.Goals as goal

pub loop-i-init : goal.loop-i-init
loop-i-init c =
    let few = channels-few _ _ c.at_most-n.ensures in
    (few.1, summing_start 0 (rw held-long few.1) few.0 c.none-l.ensures)

pub loop-i-preserved : goal.loop-i-preserved
loop-i-preserved c =
    let i = c.loop-i.i in
    let few = c.loop-i.invariant.0 in
    let same = c.held.ensures ∙ sym (held_at i (records_in c.args.t.now) zero_dated zero_settings (omega (arith, few, c.loop-i-test.true))) in
    (few, summing_more c.loop-i.invariant.1 _ c.loop-i-test.true (subst (λ (y : Settings). More i 0 y c.loop-i.l c.more-l.result) same c.more-l.ensures))

pub returns : goal.returns
returns c = laid_out c.loop-i.invariant.1 _ c.at_most-n.ensures (held-long (records_in c.args.t.now)) c.loop-i-test.false
