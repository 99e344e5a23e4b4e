-- 06 takes few octets.
use native.Mathlib.Omega.{arith}
use Rattle.sizes.specs.Size.{head_size}
use Rattle.sizes.proofs.Laws.{sequences-item-few}
use borrow.Author.Rules.{rules}
use Rattle.sizes.proofs.head_size.Goals as goal

pub overflow_add-result : goal.overflow_add-result
overflow_add-result c =
    omega (arith, c.sequences_size.ensures, sequences-item-few c.args.sequences)

pub returns : goal.returns
unfolding head_size
returns c = search rules
