-- A channel number and the items take few octets.
use native.Mathlib.Omega.{arith}
use Rattle.sizes.specs.Size.{group_size}
use Rattle.sizes.proofs.Laws.{null-le, channel-few}
use borrow.Author.Rules.{rules}
use Rattle.sizes.proofs.group_size.Goals as goal

pub overflow_add-result : goal.overflow_add-result
overflow_add-result c =
    omega (arith, c.channel_size.ensures, channel-few c.args.k)

pub overflow_add-result-2 : goal.overflow_add-result-2
overflow_add-result-2 c =
    omega (arith, c.channel_size.ensures, channel-few c.args.k, c.content_size.ensures, null-le c.args.w c.args.null)

pub returns : goal.returns
unfolding group_size
returns c = search rules
