-- By the channel that is looked up: a refusal stays the answer, and of a channel the samples that are there are counted.
use Rattle.std.proofs.lemmas.Result.{err_from_is_err_and}
use mathlib.Core.Path.{sym, ap, ◌∙◌}
use Rattle.heads.specs.Answer.{answered, map_answer, answer_of}
use Rattle.view.specs.View.{there_seen}
use Rattle.tour.proofs.there.Goals as goal

pub returns-in_err-v : goal.returns-in_err-v
returns-in_err-v c =
    let p = err_from_is_err_and c.from_residual.result c.from_residual.ensures.1 in
    let is = ap answer_of (sym c.in_err-v.was) ∙ c.view_at.ensures in
    rw (p.1, p.2) (ap (map_answer there_seen) is)

pub returns : goal.returns
returns c =
    let is = ap answer_of (sym c.in_ok-v.was) ∙ c.view_at.ensures in
    ap answered (rw c.spread-x.ensures at c.there.ensures) ∙ ap (map_answer there_seen) is
