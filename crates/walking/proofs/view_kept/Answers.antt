-- What is kept with the channel's record; the start pointer is read back from its bits.
use mathlib.Core.Path.{ap, ◌∙◌}
use mathlib.Core.List.{List}
use Prim.Native.Nat.{ℕ}
use mir.Syntax.{w64}
use mir.Val.{SFits}
use mir.Facts.{to_z-of_z}
use lib.ListN.{get_or}
use Rattle.dated.specs.Dated.{zero_dated}
use Rattle.words.specs.Words.{records_in, below_in}
use Rattle.kept.specs.Words.{head_words}
use Rattle.walking.specs.Views.{view_by}
use Rattle.kept.proofs.Laws.{lent_all}
use borrow.Author.Rules.{rules}
use Rattle.walking.proofs.view_kept.Goals as goal

pub returns : goal.returns
returns c =
    let in64 : SFits w64 c.waveform_at-v.result.start =
    search rules in
    let told = c.waveform_at-v in
    let a = c.args in
    let k = a.channel in
    let rest = lent_all head_words a.w.now in
    let below = c.below.ensures ∙ ap (λ (t : List ℕ). below_in t k) rest in
    let settings = c.held-settings.ensures ∙ ap (λ (t : List ℕ). (get_or (records_in t) k zero_dated).settings) rest in
    (λ i. record {
      start = to_z-of_z (in64) i;
      channels = told.result.channels;
      sequences = told.result.sequences;
      little = told.result.little;
      place = told.result.place;
      long = told.result.len;
      octets = told.result.octets;
      below = c.below.result;
      settings = c.held-settings.result;
    })
    ∙ (λ i. view_by (told.ensures i) (below i) (settings i))
