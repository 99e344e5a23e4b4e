-- Each number as its test tells it.
use mir.Facts.{to_z-of_z}
use mir.Val.{SFits}
use mir.Syntax.{w8, w32}
use mathlib.Core.Path.{◌∙◌}
use Rattle.maker.proofs.Channels.{ScaleFits, scale_split, scale_made_lem}
use Rattle.maker.specs.Rows.{number_at}
use Rattle.maker.specs.Given.{given_scale}
use native.Mathlib.Omega.{arith}
use borrow.Author.Rules.{rules}
use Rattle.maker.proofs.rows.scale.Goals as goal

pub overflow_cast-result : goal.overflow_cast-result
overflow_cast-result c =
    let split : ScaleFits c.args.last (given_scale (number_at c.args.numbers.now) c.args.at) =
    scale_split c.args.last _ c.requires.2 in
    record { fits = omega (arith, c.natural.ensures, (split).unit) }

pub exponent-requires : goal.exponent-requires
exponent-requires c =
    let split : ScaleFits c.args.last (given_scale (number_at c.args.numbers.now) c.args.at) =
    scale_split c.args.last _ c.requires.2 in
    (search rules, (split).exponent)

pub mantissa-requires : goal.mantissa-requires
mantissa-requires c =
    let split : ScaleFits c.args.last (given_scale (number_at c.args.numbers.now) c.args.at) =
    scale_split c.args.last _ c.requires.2 in
    (search rules, (split).mantissa)

pub returns : goal.returns
returns c =
    let in8 : SFits w8 c.exponent.result =
    search rules in
    let in32 : SFits w32 c.mantissa.result =
    search rules in
    let a = c.args in
    scale_made_lem (given_scale (number_at a.numbers.now) a.at) c.natural.ensures (to_z-of_z (in8) ∙ c.exponent.ensures) (to_z-of_z (in32) ∙ c.mantissa.ensures)
