-- By the bits of the number.
use lib.IntN.{ℤ}
use borrow.Author.Rules.{rules}
use mir.Syntax.{w64}
use mir.Val.{SFits}
use Rattle.maker.specs.Rows.{number_at}
use Rattle.maker.proofs.Numbers.{null-none}
use Rattle.maker.proofs.rows.no_null.Goals as goal

pub returns : goal.returns
returns c =
    let number : ℤ =
    number_at c.args.numbers.now c.args.at in
    let in64 : SFits w64 (number) =
    search rules in
    null-none (number) (in64)
