-- Every sum on the way is at most the place, which is small.
use native.Mathlib.Omega.{arith}
use Rattle.view.proofs.Lying.{place-sum}
use Rattle.view.proofs.place_of.Goals as goal

pub overflow_mul-offset : goal.overflow_mul-offset
overflow_mul-offset c = omega (arith, place-sum c.args.x c.args.number _ c.width-w.ensures, c.requires.1)

pub overflow_add-offset : goal.overflow_add-offset
overflow_add-offset c = omega (arith, place-sum c.args.x c.args.number _ c.width-w.ensures, c.requires.1)

pub overflow_mul-offset-2 : goal.overflow_mul-offset-2
overflow_mul-offset-2 c = omega (arith, place-sum c.args.x c.args.number _ c.width-w.ensures, c.requires.1)

pub overflow_add-offset-2 : goal.overflow_add-offset-2
overflow_add-offset-2 c = omega (arith, place-sum c.args.x c.args.number _ c.width-w.ensures, c.requires.1)

pub overflow_add-result : goal.overflow_add-result
overflow_add-result c = omega (arith, place-sum c.args.x c.args.number _ c.width-w.ensures, c.requires.1)

pub returns : goal.returns
returns c = place-sum c.args.x c.args.number _ c.width-w.ensures
