-- By the answer for the place; the octets there are the sample's, and the value is that of their bits.
use Rattle.std.proofs.lemmas.Result.{err_from_is_err_and}
use mathlib.Core.Path.{ap, ◌∙◌}
use Rattle.std.specs.Prelude.{Ok}
use Rattle.values.specs.Sample.{value_says}
use Rattle.reader.proofs.Answers.{sample-at, sample-lacking, sample-none}
use Rattle.reader.proofs.sample.Goals as goal

pub returns-in_err-place : goal.returns-in_err-place
returns-in_err-place c =
    let p = err_from_is_err_and c.from_residual.result c.from_residual.ensures.1 in
    rw (p.1, p.2) (sample-none _ _ _ _ _ c.place.ensures c.in_err-place.was)

pub returns-in-None : goal.returns-in-None
unfolding value_says
returns-in-None c = sample-lacking _ _ _ _ c.place.ensures (c.in_ok-place.was ∙ ap Ok c.in-None.is)

pub returns-in-Some : goal.returns-in-Some
returns-in-Some c =
    sample-at _ _ _ _ c.place.ensures (c.in_ok-place.was ∙ ap Ok c.in-Some.is) c.width.ensures c.part-x.ensures c.number-bits.ensures c.sample_value-value.ensures
