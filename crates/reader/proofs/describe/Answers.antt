-- By the answer of the look_up.
use Rattle.std.proofs.lemmas.Result.{err_from_is_err_and}
use mathlib.Core.Path.{sym, ap, ◌∙◌}
use Rattle.heads.specs.Answer.{answered, map_answer, answer_of}
use Rattle.reader.specs.Answer.{attributes_seen}
use Rattle.reader.proofs.Answers.{described_is}
use Rattle.reader.proofs.describe.Goals as goal

pub returns-in_err-v : goal.returns-in_err-v
returns-in_err-v c =
    let p = err_from_is_err_and c.from_residual.result c.from_residual.ensures.1 in
    let seen = ap answer_of (sym c.in_err-v.was) ∙ c.look_up.ensures in
    rw (p.1, p.2) (ap (map_answer attributes_seen) seen ∙ described_is _ _ _)

pub returns : goal.returns
returns c =
    let seen = ap answer_of (sym c.in_ok-v.was) ∙ c.look_up.ensures in
    ap answered c.attributes_seen.ensures ∙ ap (map_answer attributes_seen) seen ∙ described_is _ _ _
