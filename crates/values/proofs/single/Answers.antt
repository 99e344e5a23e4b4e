-- `values::single` meets its contract: its test is the one for bits that are no number's, by `nan_yes` and `nan_no`. Assumes nothing.
use mathlib.Core.Path.{ap, ◌∙◌}
use lib.Ieee.{binary32}
use Rattle.values.specs.Sample.{single_said, value_says, single_of}
use Rattle.values.proofs.Laws.{nan_yes, nan_no, bits-kept}
use borrow.Author.Rules.{rules}
use Rattle.values.proofs.single.Goals as goal

pub returns-then-n-gt2139095040 : goal.returns-then-n-gt2139095040
unfolding single_of value_says
returns-then-n-gt2139095040 c = simp (nan_yes binary32 _ c.if-n-gt2139095040.true)

pub float_from_bits-result : goal.float_from_bits-result
float_from_bits-result c = rw (nan_no binary32 _ c.if-n-gt2139095040.false) tt

pub returns : goal.returns
unfolding single_of value_says
returns c =
    let number = nan_no binary32 _ c.if-n-gt2139095040.false in
    ap single_said (bits-kept binary32 _ (search rules) number) ∙ simp number
