-- Each number is that of the lowest octets of its word.
use mathlib.Core.Path.{ap, ◌∙◌}
use Prim.Native.Nat.{◌<◌, ◌^◌}
use native.Mathlib.Nat.{mod-eq_of_lt}
use mir.Syntax.{w64}
use mir.Val.{SFits}
use mir.Facts.{to_z-of_z}
use Rattle.octets.specs.Number.{low_of}
use Rattle.walk.specs.declared.Waveform.{Waveform}
use borrow.Author.Rules.{rules}
use Rattle.kept.proofs.waveform_words.Goals as goal

-- The numbers of a frame are those of their types.
record Fit (v : Waveform) : Type 0 where
  start : SFits w64 v.start
  channels : v.channels < 2 ^ 32
  sequences : v.sequences < 2 ^ 32

pub returns : goal.returns
returns c =
    let fit : Fit c.args.v =
    search rules in
    let v = c.args.v in
    let f = fit in
    λ i. record {
      start = (c.signed_word.ensures ∙ to_z-of_z f.start) i;
      channels = (ap (low_of 4) c.from.ensures ∙ mod-eq_of_lt f.channels) i;
      sequences = (ap (low_of 4) c.from-2.ensures ∙ mod-eq_of_lt f.sequences) i;
      little = c.flag_word.ensures i;
      place = v.place;
      len = v.len;
      octets = v.octets;
    }
