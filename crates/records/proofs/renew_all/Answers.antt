-- Record by record: those behind are up to date.
use native.Mathlib.Omega.{arith}
use Rattle.records.proofs.Refreshing.{refreshing_start, refreshing_room, refreshing_more, refreshing_all}
use Rattle.records.proofs.renew_all.Goals as goal

pub loop-i-init : goal.loop-i-init
loop-i-init c =
    let few = c.requires.n_le_channel_limit in
    refreshing_start _ _ few.0 few.1 c.none-l.ensures

pub renew-requires : goal.renew-requires
renew-requires c =
    record {
      k_bound = refreshing_room c.loop-i.invariant c.loop-i-test.true;
      time_word_value = c.requires.time_word_value;
      since_value = c.requires.since_value;
    }

pub lay_next-l-requires : goal.lay_next-l-requires
lay_next-l-requires c =
    omega (arith, refreshing_room c.loop-i.invariant c.loop-i-test.true, c.renew.ensures.long)

pub loop-i-preserved : goal.loop-i-preserved
loop-i-preserved c =
    refreshing_more c.loop-i.invariant c.loop-i-test.true c.renew.ensures c.lay_next-l.ensures.t_after _ c.lay_next-l.ensures.more

pub shape_of-t : goal.shape_of-t
shape_of-t c = c.loop-i.invariant.long

pub returns : goal.returns
returns c = refreshing_all c.loop-i.invariant c.loop-i-test.false
