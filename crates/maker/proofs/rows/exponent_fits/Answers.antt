-- Each way out is what its tests say; a signed number is read back from its bits.
use borrow.Author.Rules.{rules}
use mathlib.Core.Path.{sym, ap, ◌∙◌}
use lib.IntN.{ℤ, pos}
use mir.Syntax.{w64}
use mir.Val.{SFits}
use mir.Facts.{to_z-of_z}
use Rattle.maker.specs.Rows.{number_at}
use lib.IntN.{negsuc}
use lib.Signed.{le_z}
use Rattle.maker.specs.Given.{exponent_fits}
use Rattle.maker.proofs.rows.exponent_fits.Goals as goal

pub returns-then-z-geminus128 : goal.returns-then-z-geminus128
unfolding exponent_fits
returns-then-z-geminus128 c =
    let number : ℤ =
    number_at c.args.numbers.now c.args.at in
    let in64 : SFits w64 (number) =
    search rules in
    let back = to_z-of_z (in64) in
    ap (λ (z : ℤ). le_z z (pos 127)) back ∙ simp (ap (le_z (negsuc 127)) (sym back) ∙ c.if-z-geminus128.true)

pub returns-else-z-geminus128 : goal.returns-else-z-geminus128
unfolding exponent_fits
returns-else-z-geminus128 c =
    let number : ℤ =
    number_at c.args.numbers.now c.args.at in
    let in64 : SFits w64 (number) =
    search rules in
    c.if-z-geminus128.false ∙ simp (ap (le_z (negsuc 127)) (sym (to_z-of_z (in64))) ∙ c.if-z-geminus128.false)
