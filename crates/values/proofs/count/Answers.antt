-- `values::count` meets its contract: a number of four octets is below the sign bit of an i64. Assumes nothing.
use mathlib.Core.Path.{ap}
use mir.Syntax.{w64}
use mir.Facts.{to_z_pos}
use Rattle.values.specs.Sample.{whole_said, value_says}
use borrow.Author.Rules.{rules}
use Rattle.values.proofs.count.Goals as goal

pub returns : goal.returns
unfolding value_says
returns c = ap whole_said (to_z_pos w64 (search rules))
