-- By whether the samples of all channels lie in the file.
use mathlib.Core.Path.{sym, ap, ◌∙◌}
use lib.ListN.{length}
use Rattle.heads.specs.Answer.{map_answer}
use Rattle.strides.specs.Channels.{spreads_from}
use Rattle.strides.proofs.Channels.{kept, swept_refused, swept_count, swept_left}
use Rattle.strides.proofs.lay_channels.Goals as goal

pub lay_all-requires : goal.lay_all-requires
lay_all-requires c = sym c.all_lie.ensures ∙ c.if-all_lie.true

pub returns-then-all_lie : goal.returns-then-all_lie
returns-then-all_lie c =
    let a = c.args in
    let xs = spreads_from a.t.now a.q 0 a.channels in
    let e = sym c.all_lie.ensures ∙ c.if-all_lie.true in
    record {
      result_value = swept_count a.s.now a.out.now xs e c.lay_all.ensures.value;
      out_after = swept_left a.s.now a.out.now xs e c.lay_all.ensures.out_after;
    }

pub returns : goal.returns
returns c =
    let a = c.args in
    let e = swept_refused a.s.now a.out.now (spreads_from a.t.now a.q 0 a.channels) (sym c.all_lie.ensures ∙ c.if-all_lie.false) in
    record {
      result_value = ap (map_answer length) e;
      out_after = kept _ e;
    }
