-- By its sign; a signed number is read back from its bits.
use borrow.Author.Rules.{rules}
use mathlib.Core.Path.{◌≡◌, sym, ap, ◌∙◌}
use lib.IntN.{ℤ, pos}
use mir.Syntax.{w64}
use mir.Val.{SFits}
use mir.Facts.{to_z-of_z}
use Rattle.maker.specs.Rows.{number_at}
use mathlib.Core.Bool.{false}
use lib.IntN.{nat_abs}
use lib.Signed.{lt_z}
use Rattle.maker.proofs.Numbers.{is_natural, below_natural, natural_is, natural_fits}
use Rattle.maker.proofs.rows.natural.Goals as goal

pub returns-then-z-lt0 : goal.returns-then-z-lt0
returns-then-z-lt0 c =
    let number : ℤ =
    number_at c.args.numbers.now c.args.at in
    let in64 : SFits w64 (number) =
    search rules in
    below_natural (number) (ap (λ (z : ℤ). lt_z z (pos 0)) (sym (to_z-of_z (in64))) ∙ c.if-z-lt0.true)

pub overflow_cast-result : goal.overflow_cast-result
overflow_cast-result c =
    let number : ℤ =
    number_at c.args.numbers.now c.args.at in
    let in64 : SFits w64 (number) =
    search rules in
    let not-below : lt_z (number) (pos 0) ≡ false =
    ap (λ (z : ℤ). lt_z z (pos 0)) (sym (to_z-of_z (in64))) ∙ c.if-z-lt0.false in
    rw (to_z-of_z (in64)) (is_natural (number) (not-below), record { fits = natural_fits (number) (not-below) (in64).sfits })

pub returns : goal.returns
returns c =
    let number : ℤ =
    number_at c.args.numbers.now c.args.at in
    let in64 : SFits w64 (number) =
    search rules in
    let not-below : lt_z (number) (pos 0) ≡ false =
    ap (λ (z : ℤ). lt_z z (pos 0)) (sym (to_z-of_z (in64))) ∙ c.if-z-lt0.false in
    ap nat_abs (to_z-of_z (in64)) ∙ natural_is (number) (not-below)
