-- Each number by itself.
use mathlib.Core.Path.{◌∙◌, ap}
use mir.Syntax.{w64}
use mir.Val.{SFits}
use mir.Facts.{to_z-of_z}
use Rattle.octets.specs.Number.{twos}
use borrow.Author.Rules.{rules}
use Rattle.kept.proofs.standing_at.Goals as goal

pub returns : goal.returns
returns c =
    let fits-start : SFits w64 c.signed_of.result =
    search rules in
    let fits_continued : SFits w64 c.signed_of-2.result =
    search rules in
    let start = to_z-of_z (fits-start) ∙ c.signed_of.ensures ∙ ap (twos 8) c.word.ensures in
    let continued = to_z-of_z (fits_continued) ∙ c.signed_of-2.ensures ∙ ap (twos 8) c.word-2.ensures in
    λ i. record {
      little = c.flag_at.ensures i;
      counted = c.four_at.ensures i;
      sequences = c.four_at-2.ensures i;
      start = start i;
      continued = continued i;
      root = c.args.root;
    }
