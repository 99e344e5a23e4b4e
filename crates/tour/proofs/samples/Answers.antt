-- By the channel that is looked up: a refusal stays the answer, and of a channel the samples that are seen are.
use Rattle.std.proofs.lemmas.Result.{err_from_is_err_and}
use mathlib.Core.Path.{refl, sym, ap, ◌∙◌}
use Rattle.heads.specs.Answer.{left_by, answer_of}
use Rattle.tour.proofs.samples.Goals as goal

pub returns-in_err-v : goal.returns-in_err-v
unfolding left_by
returns-in_err-v c =
    let p = err_from_is_err_and c.from_residual.result c.from_residual.ensures.1 in
    let is = ap answer_of (sym c.in_err-v.was) ∙ c.view_at.ensures in
    rw (← is) (record {
      result_value = rw (p.1, p.2) refl;
      out_after = refl;
    })

pub returns : goal.returns
returns c =
    let is = ap answer_of (sym c.in_ok-v.was) ∙ c.view_at.ensures in
    rw (← is) (record {
      result_value = c.seen.ensures.result_value;
      out_after = c.seen.ensures.out_after;
    })
