-- By the answer of the check.
use mathlib.Core.Path.{sym, ap, ◌∙◌}
use Rattle.std.proofs.lemmas.Result.{err_from_is_err_and}
use Rattle.heads.specs.Answer.{answer_of}
use Rattle.walking.proofs.Steps.{opens_refused, opens_begun}
use Rattle.walking.proofs.open.Goals as goal

pub returns-in_err-n : goal.returns-in_err-n
returns-in_err-n c =
    let p = err_from_is_err_and c.from_residual.result c.from_residual.ensures.1 in
    rw (p.1, p.2) (opens_refused c.args.s.now c.args.w.now (ap answer_of (sym c.in_err-n.was) ∙ c.check.ensures))

pub returns : goal.returns
returns c = opens_begun c.args.s.now c.args.w.now (ap answer_of (sym c.in_ok-n.was) ∙ c.check.ensures) c.begin.ensures
