-- The quotient is 0 or 1, and tells the half.
use native.Mathlib.Omega.{arith}
use Rattle.rows.proofs.Laws.{signed_fits, signed_word}
use Rattle.rows.proofs.signed.Goals as goal

pub overflow_mul-result-2 : goal.overflow_mul-result-2
overflow_mul-result-2 c = omega (arith, signed_fits c.args.bits c.args.half (omega arith) (omega arith) (omega arith))

pub overflow_add-result : goal.overflow_add-result
overflow_add-result c = omega (arith, signed_fits c.args.bits c.args.half (omega arith) (omega arith) (omega arith))

pub returns : goal.returns
returns c = signed_word c.args.bits c.args.half (omega arith) (omega arith) (omega arith)
