-- Each way out is what its tests say; a signed number is read back from its bits.
use borrow.Author.Rules.{rules}
use mathlib.Core.Path.{◌≡◌, sym, ap, ◌∙◌}
use lib.IntN.{ℤ, pos}
use mir.Syntax.{w64}
use mir.Val.{SFits}
use mir.Facts.{to_z-of_z}
use Rattle.maker.specs.Rows.{number_at}
use mathlib.Core.Bool.{false}
use lib.Dec.{leb}
use lib.IntN.{nat_abs}
use lib.Signed.{lt_z}
use Rattle.maker.proofs.Numbers.{below-outside, low-outside, within_by, is_natural, natural_fits}
use Rattle.maker.proofs.rows.is_within.Goals as goal

pub returns-then-z-lt0 : goal.returns-then-z-lt0
returns-then-z-lt0 c =
    let number : ℤ =
    number_at c.args.numbers.now c.args.at in
    let in64 : SFits w64 (number) =
    search rules in
    below-outside _ _ (number) (ap (λ (z : ℤ). lt_z z (pos 0)) (sym (to_z-of_z (in64))) ∙ c.if-z-lt0.true)

pub overflow_cast-n : goal.overflow_cast-n
overflow_cast-n c =
    let number : ℤ =
    number_at c.args.numbers.now c.args.at in
    let in64 : SFits w64 (number) =
    search rules in
    let not-below : lt_z (number) (pos 0) ≡ false =
    ap (λ (z : ℤ). lt_z z (pos 0)) (sym (to_z-of_z (in64))) ∙ c.if-z-lt0.false in
    rw (to_z-of_z (in64)) (is_natural (number) (not-below), record { fits = natural_fits (number) (not-below) (in64).sfits })

pub returns-then-low-n : goal.returns-then-low-n
returns-then-low-n c =
    let number : ℤ =
    number_at c.args.numbers.now c.args.at in
    let in64 : SFits w64 (number) =
    search rules in
    let not-below : lt_z (number) (pos 0) ≡ false =
    ap (λ (z : ℤ). lt_z z (pos 0)) (sym (to_z-of_z (in64))) ∙ c.if-z-lt0.false in
    let back = to_z-of_z (in64) in
    let a = c.args in
    ap (λ (z : ℤ). leb (nat_abs z) a.high) back ∙ within_by a.low a.high (number) (not-below) (rw back at c.if-low-n.true)

pub returns : goal.returns
returns c =
    let number : ℤ =
    number_at c.args.numbers.now c.args.at in
    let in64 : SFits w64 (number) =
    search rules in
    let not-below : lt_z (number) (pos 0) ≡ false =
    ap (λ (z : ℤ). lt_z z (pos 0)) (sym (to_z-of_z (in64))) ∙ c.if-z-lt0.false in
    let back = to_z-of_z (in64) in
    let a = c.args in
    low-outside a.low a.high (number) (not-below) (rw back at c.if-low-n.false)
