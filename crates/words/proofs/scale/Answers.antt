-- Each number by itself.
use mathlib.Core.Path.{◌∙◌, ap}
use mir.Syntax.{w8, w32}
use mir.Val.{SFits}
use mir.Facts.{to_z-of_z}
use Prim.Native.Nat.{ℕ}
use Rattle.octets.specs.Number.{low_of, twos}
use borrow.Author.Rules.{rules}
use Rattle.words.proofs.scale.Goals as goal

pub returns : goal.returns
returns c =
    let fits-exponent : SFits w8 c.signed_octet.result =
    search rules in
    let fits-mantissa : SFits w32 c.lowest_signed.result =
    search rules in
    let unit = c.one.ensures ∙ ap (low_of 1) c.word.ensures in
    let octet = c.one-2.ensures ∙ ap (low_of 1) c.word-2.ensures in
    let exponent = to_z-of_z (fits-exponent) ∙ c.signed_octet.ensures ∙ ap (twos 1) octet in
    let low = ap (λ (x : ℕ). twos 4 (low_of 4 x)) c.word-3.ensures in
    let mantissa = to_z-of_z (fits-mantissa) ∙ c.lowest_signed.ensures ∙ low in
    λ i. record { unit = unit i; exponent = exponent i; mantissa = mantissa i }
