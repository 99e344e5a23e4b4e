-- By the channel that is found: what is seen of a frame of the file are its samples.
use Rattle.std.proofs.lemmas.Result.{err_from_is_err_and}
use mathlib.Core.Path.{ap, ◌∙◌}
use mathlib.Core.List.{List}
use Prim.Native.Nat.{ℕ, ◌-◌, min}
use lib.ListN.{length}
use Rattle.heads.specs.Answer.{Answer, map_answer, left_by}
use Rattle.strides.specs.Laying.{bits_from}
use Rattle.laid.specs.Laid.{sample_bits}
use Rattle.there.specs.There.{there_in}
use Rattle.layout.specs.Frame.{Frame}
use Rattle.reader.proofs.Answers.{located, unseen}
use Rattle.bulk.specs.Samples.{read_of, count_read}
use Rattle.strides.proofs.Channels.{kept}
use Rattle.bulk.proofs.Reading.{read_located}
use Rattle.bulk.proofs.samples.Goals as goal

pub returns-in_err-v : goal.returns-in_err-v
unfolding count_read read_of
returns-in_err-v c =
    let p = err_from_is_err_and c.from_residual.result c.from_residual.ensures.1 in
    let a = c.args in
    let asks = λ (f : Frame). bits_from (sample_bits f a.channel) a.first (min (length a.out.now) (there_in a.channel f - a.first)) in
    let e = unseen asks _ _ _ _ _ c.look_up.ensures c.in_err-v.was in
    record {
      result_value = rw (p.1, p.2) (ap (map_answer length) e);
      out_after = kept _ e;
    }

pub returns : goal.returns
unfolding count_read
returns c =
    let a = c.args in
    let l = located a.s.now a.frame a.channel _ c.look_up.ensures c.in_ok-v.was in
    let e = read_located l a.first (length a.out.now) in
    record {
      result_value = c.seen.ensures.result_value ∙ ap (map_answer length) e;
      out_after = c.seen.ensures.out_after ∙ ap (λ (b : Answer (List ℕ)). left_by b a.out.now) e;
    }
