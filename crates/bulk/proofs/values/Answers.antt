-- By the channel that is found: what is seen of a frame of the file are its samples.
use Rattle.std.proofs.lemmas.Result.{err_from_is_err_and}
use mathlib.Core.Path.{ap, ◌∙◌}
use mathlib.Core.List.{List}
use Prim.Native.Nat.{◌-◌, min}
use lib.ListN.{length}
use Rattle.heads.specs.Answer.{Answer, map_answer, left_by}
use Rattle.values.specs.Sample.{Said}
use Rattle.strides.specs.Laying.{bits_from}
use Rattle.laid.specs.Laid.{sample_bits}
use Rattle.there.specs.There.{there_in}
use Rattle.layout.specs.Frame.{Frame, channel_in}
use Rattle.reader.proofs.Answers.{located, unseen}
use Rattle.bulk.specs.Samples.{values_by, values_of, kinds_in, wholes_in}
use Rattle.strides.proofs.Channels.{kept}
use Rattle.bulk.proofs.Reading.{values_located}
use Rattle.bulk.proofs.values.Goals as goal

pub returns-in_err-v : goal.returns-in_err-v
unfolding values_of
returns-in_err-v c =
    let p = err_from_is_err_and c.from_residual.result c.from_residual.ensures.1 in
    let a = c.args in
    let room = min (length a.kinds.now) (length a.wholes.now) in
    let asks = λ (f : Frame). values_by (channel_in a.channel f.channels) (bits_from (sample_bits f a.channel) a.first (min room (there_in a.channel f - a.first))) in
    let e = unseen asks _ _ _ _ _ c.look_up.ensures c.in_err-v.was in
    record {
      result_value = rw (p.1, p.2) (ap (map_answer length) e);
      kinds_after = kept _ (ap kinds_in e);
      wholes_after = kept _ (ap wholes_in e);
    }

pub returns : goal.returns
returns c =
    let a = c.args in
    let l = located a.s.now a.frame a.channel _ c.look_up.ensures c.in_ok-v.was in
    let e = values_located l a.first (min (length a.kinds.now) (length a.wholes.now)) in
    record {
      result_value = c.values_seen.ensures.result_value ∙ ap (map_answer length) e;
      kinds_after = c.values_seen.ensures.kinds_after ∙ ap (λ (b : Answer (List Said)). left_by (kinds_in b) a.kinds.now) e;
      wholes_after = c.values_seen.ensures.wholes_after ∙ ap (λ (b : Answer (List Said)). left_by (wholes_in b) a.wholes.now) e;
    }
