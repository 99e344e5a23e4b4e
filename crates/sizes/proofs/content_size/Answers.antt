-- A null takes no more than a sample.
use native.Mathlib.Omega.{arith}
use Rattle.sizes.proofs.Laws.{null-le}
use Rattle.sizes.proofs.content_size.Goals as goal

pub overflow_add-result-2 : goal.overflow_add-result-2
overflow_add-result-2 c =
    omega (arith, c.null_size.ensures, null-le c.args.w c.args.null)
