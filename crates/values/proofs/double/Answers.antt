-- `values::double` meets its contract: its test is the one for bits that are no number's, by `nan_yes` and `nan_no`. Assumes nothing.
use mathlib.Core.Path.{ap, ◌∙◌}
use lib.Ieee.{binary64}
use Rattle.values.specs.Sample.{double_said, value_says, double_of}
use Rattle.values.proofs.Laws.{nan_yes, nan_no, bits-kept}
use borrow.Author.Rules.{rules}
use Rattle.values.proofs.double.Goals as goal

pub returns-then-n-gt9218868437227405312 : goal.returns-then-n-gt9218868437227405312
unfolding double_of value_says
returns-then-n-gt9218868437227405312 c = simp (nan_yes binary64 _ c.if-n-gt9218868437227405312.true)

pub float_from_bits-result : goal.float_from_bits-result
float_from_bits-result c = rw (nan_no binary64 _ c.if-n-gt9218868437227405312.false) tt

pub returns : goal.returns
unfolding double_of value_says
returns c =
    let number = nan_no binary64 _ c.if-n-gt9218868437227405312.false in
    ap double_said (bits-kept binary64 _ (search rules) number) ∙ simp number
