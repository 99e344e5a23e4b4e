-- A data type of the table fits in an octet.
use Rattle.maker.proofs.Channels.{numbers_split}
use Rattle.maker.specs.Given.{given_at}
use native.Mathlib.Omega.{arith}
use Rattle.maker.proofs.rows.Row.data_type.Goals as goal

pub overflow_cast-result : goal.overflow_cast-result
overflow_cast-result c =
    let a = c.args in
    record { fits = omega (arith, c.natural.ensures, (numbers_split (given_at a.self.numbers.now a.self.bits.now a.self.index) c.requires).datatype) }
