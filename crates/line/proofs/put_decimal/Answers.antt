-- `line::put_decimal` meets its contract: the digits that are copied are the number's decimal.
use native.Mathlib.Omega.{arith}
use Rattle.line.specs.Line.{decimal_of}
use Rattle.line.proofs.Laws.{fewest_digits}
use Rattle.line.proofs.put_decimal.Goals as goal

pub returns : goal.returns
unfolding decimal_of
returns c =
    let d = c.decimal-k in
    let n = c.args.n in
    rw (d.ensures.digits, fewest_digits 19 d.result n (omega arith) d.ensures.len) at c.put_text.ensures
