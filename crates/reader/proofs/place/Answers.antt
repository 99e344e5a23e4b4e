-- By the answer of the look_up: the place is the one that is found of what is seen, and the samples that are seen lie in the file.
use Rattle.std.proofs.lemmas.Result.{err_from_is_err_and}
use Rattle.std.specs.Prelude.{Ok}
use mathlib.Core.Path.{sym, ap, ◌∙◌}
use mathlib.Core.Option.{some, none}
use Rattle.layout.specs.Frame.{Frame, place_of}
use Rattle.heads.specs.Answer.{map_answer, answer_of}
use Rattle.view.specs.View.{view_of}
use Rattle.reader.specs.Answer.{found_place, placed_of, if_there}
use Rattle.reader.proofs.Answers.{located, unseen, told_at, placed_seen}
use Rattle.reader.proofs.place.Goals as goal

pub returns-in_err-v : goal.returns-in_err-v
unfolding placed_of
returns-in_err-v c =
    let a = c.args in
    let p = err_from_is_err_and c.from_residual.result c.from_residual.ensures.1 in
    rw (p.1, p.2)
    (unseen (λ (f : Frame). if_there a.channel a.number f (some (found_place (place_of a.channel a.number f) (view_of a.channel f))) none) _ _ _ _ _ c.look_up.ensures c.in_err-v.was)

pub returns-in_err-found : goal.returns-in_err-found
returns-in_err-found c =
    let l = located _ _ _ _ c.look_up.ensures c.in_ok-v.was in
    let found = ap answer_of (sym c.in_err-found.was) ∙ c.find.ensures in
    let p = err_from_is_err_and c.from_residual-in_err-found.result c.from_residual-in_err-found.ensures.1 in
    rw (p.1, p.2) (ap (map_answer (told_at c.in_ok-v.v)) found ∙ placed_seen l _)

pub returns-in-Some : goal.returns-in-Some
returns-in-Some c =
    let l = located _ _ _ _ c.look_up.ensures c.in_ok-v.was in
    let found = ap answer_of (sym (c.in_ok-found.was ∙ ap Ok c.in-Some.is)) ∙ c.find.ensures in
    ap (map_answer (told_at c.in_ok-v.v)) found ∙ placed_seen l _

pub returns-in-None : goal.returns-in-None
returns-in-None c =
    let l = located _ _ _ _ c.look_up.ensures c.in_ok-v.was in
    let found = ap answer_of (sym (c.in_ok-found.was ∙ ap Ok c.in-None.is)) ∙ c.find.ensures in
    ap (map_answer (told_at c.in_ok-v.v)) found ∙ placed_seen l _
