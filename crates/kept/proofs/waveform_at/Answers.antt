-- Each number by itself.
use mathlib.Core.Path.{◌∙◌, ap}
use mir.Syntax.{w64}
use mir.Val.{SFits}
use mir.Facts.{to_z-of_z}
use Rattle.octets.specs.Number.{twos}
use borrow.Author.Rules.{rules}
use Rattle.kept.proofs.waveform_at.Goals as goal

pub returns : goal.returns
returns c =
    let fits-start : SFits w64 c.signed_of.result =
    search rules in
    let start = to_z-of_z (fits-start) ∙ c.signed_of.ensures ∙ ap (twos 8) c.word.ensures in
    λ i. record {
      start = start i;
      channels = c.four_at.ensures i;
      sequences = c.four_at-2.ensures i;
      little = c.flag_at.ensures i;
      place = c.word-2.ensures i;
      len = c.word-3.ensures i;
      octets = c.word-4.ensures i;
    }
