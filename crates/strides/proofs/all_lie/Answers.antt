-- The loop's invariant: the channels that are left decide.
use mathlib.Core.Path.{sym, ap, ◌∙◌}
use native.Mathlib.Omega.{arith}
use Rattle.spread.specs.Spread.{lies_spread}
use Rattle.strides.proofs.Channels.{checking_begins, checking_unlaid, checking_turns, checking_ends}
use Rattle.strides.proofs.all_lie.Goals as goal

pub loop-channel-init : goal.loop-channel-init
loop-channel-init c = checking_begins _ _ _ _

pub loop-channel-preserved : goal.loop-channel-preserved
loop-channel-preserved c =
    let lies = ap (lies_spread c.args.size) (sym c.spread_at-x.ensures) ∙ sym c.lies.ensures ∙ c.if-not-lies.false in
    checking_turns _ _ _ _ c.loop-channel.invariant c.loop-channel-test.true lies

pub returns-then-not-lies : goal.returns-then-not-lies
returns-then-not-lies c =
    let lies = ap (lies_spread c.args.size) (sym c.spread_at-x.ensures) ∙ sym c.lies.ensures ∙ c.if-not-lies.true in
    checking_unlaid _ _ _ _ c.loop-channel.invariant c.loop-channel-test.true lies

pub returns : goal.returns
returns c = checking_ends _ _ _ _ c.loop-channel.invariant (omega arith)
