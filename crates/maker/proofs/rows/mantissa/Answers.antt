-- A number that fits is the same with fewer octets.
use borrow.Author.Rules.{rules}
use mathlib.Core.Path.{sym, ◌∙◌}
use lib.IntN.{ℤ}
use mir.Syntax.{w32, w64}
use mir.Val.{SFits}
use mir.Facts.{to_z-of_z}
use Rattle.maker.specs.Rows.{number_at}
use mathlib.Core.Path.{subst}
use Rattle.maker.proofs.Numbers.{mantissa-small}
use Rattle.maker.proofs.rows.mantissa.Goals as goal

pub overflow_cast-result : goal.overflow_cast-result
overflow_cast-result c =
    let number : ℤ =
    number_at c.args.numbers.now c.args.at in
    let in64 : SFits w64 (number) =
    search rules in
    subst (SFits w32) (sym (to_z-of_z (in64))) (record { sfits = mantissa-small (number) c.requires.1 })

pub returns : goal.returns
returns c =
    let number : ℤ =
    number_at c.args.numbers.now c.args.at in
    let in64 : SFits w64 (number) =
    search rules in
    to_z-of_z (overflow_cast-result c) ∙ to_z-of_z (in64)
