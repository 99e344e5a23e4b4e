-- The stretch is the one at the front of the octets; the record of its channel is stored where it has a definition.
use native.Mathlib.Omega.{arith}
use Rattle.ahead.proofs.Laws.{goes_none}
use Rattle.ahead.proofs.Stretches.{group_inside, group_put, group_kept}
use Rattle.ahead.proofs.Asks.{stretch-inside}
use Rattle.ahead.proofs.along_group.Goals as goal

pub along_ignored-requires : goal.along_ignored-requires
along_ignored-requires c =
    record {
      u_bound = c.requires.u_bound;
      fits = c.requires.fits;
      within_value = c.requires.within_value;
      within_value_2 = group_inside c.args.within c.args.channel c.requires.in_group;
      counted_value = c.if-st-eq0.true;
    }

pub returns-then-st-eq0 : goal.returns-then-st-eq0
returns-then-st-eq0 c = c.along_ignored.ensures _

pub returns-then-dates : goal.returns-then-dates
returns-then-dates c = goes_none _ _ _ _ c.none.ensures

pub returns-then-k-eq0 : goal.returns-then-k-eq0
returns-then-k-eq0 c = goes_none _ _ _ _ c.none-then-k-eq0.ensures

pub returns-then-passed : goal.returns-then-passed
returns-then-passed c =
    group_put _ c.args.h _ _ _ c.if-dates.false (omega (arith, c.if-st-eq0.false)) c.requires.within_value c.requires.in_group
    c.requires.u_bound c.requires.fits c.settled-stood.ensures c.along-ahead.ensures c.if-k-eq0.false
    c.part.ensures c.over-passed.ensures c.around_at-mark.ensures c.if-passed.true c.note.ensures
    c.put.ensures

pub returns-else-passed : goal.returns-else-passed
returns-else-passed c =
    group_kept _ c.args.h _ _ _ c.if-dates.false (omega (arith, c.if-st-eq0.false)) c.requires.within_value
    c.requires.in_group c.requires.u_bound c.requires.fits c.settled-stood.ensures c.along-ahead.ensures
    c.if-k-eq0.false c.part.ensures c.over-passed.ensures c.around_at-mark.ensures c.if-passed.false

pub overflow_add-cursor : goal.overflow_add-cursor
overflow_add-cursor c = omega (arith, stretch-inside _ _ _ _ c.along-ahead.ensures, c.requires.u_bound)
