-- By the channel that is looked up: a refusal stays the answer, and of a channel the values that are seen are.
use Rattle.std.proofs.lemmas.Result.{err_from_is_err_and}
use mathlib.Core.Path.{refl, sym, ap, ◌∙◌}
use Rattle.heads.specs.Answer.{left_by, answer_of}
use Rattle.tour.proofs.values.Goals as goal

pub returns-in_err-v : goal.returns-in_err-v
unfolding left_by
returns-in_err-v c =
    let p = err_from_is_err_and c.from_residual.result c.from_residual.ensures.1 in
    let is = ap answer_of (sym c.in_err-v.was) ∙ c.view_at.ensures in
    rw (← is) (record {
      result_value = rw (p.1, p.2) refl;
      kinds_after = refl;
      wholes_after = refl;
    })

pub returns : goal.returns
returns c =
    let is = ap answer_of (sym c.in_ok-v.was) ∙ c.view_at.ensures in
    rw (← is) (record {
      result_value = c.values_seen.ensures.result_value;
      kinds_after = c.values_seen.ensures.kinds_after;
      wholes_after = c.values_seen.ensures.wholes_after;
    })
