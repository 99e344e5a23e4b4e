-- By how many samples are read: they are laid at the front of the buffer.
use Rattle.std.proofs.lemmas.Result.{err_from_is_err_and}
use mathlib.Core.Path.{ap}
use lib.ListN.{length}
use Rattle.heads.specs.Answer.{map_answer}
use Rattle.strides.proofs.Channels.{kept}
use Rattle.bulk.proofs.Reading.{read_refused, read_count, read_left}
use Rattle.bulk.proofs.seen.Goals as goal

pub returns-in_err-n : goal.returns-in_err-n
returns-in_err-n c =
    let p = err_from_is_err_and c.from_residual.result c.from_residual.ensures.1 in
    let a = c.args in
    let e = read_refused a.s.now a.v a.first (length a.out.now) c.readable.ensures c.in_err-n.was in
    record {
      result_value = rw (p.1, p.2) (ap (map_answer length) e);
      out_after = kept _ e;
    }

pub returns : goal.returns
returns c =
    let a = c.args in
    let many = c.readable.ensures in
    let some = c.in_ok-n.was in
    record {
      result_value = read_count a.s.now a.v a.first (length a.out.now) many some;
      out_after = read_left a.s.now a.v a.first a.out.now many some (rw c.spread.ensures at c.lay.ensures);
    }
