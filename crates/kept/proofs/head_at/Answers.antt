-- Each part by itself.
use mathlib.Core.Path.{◌∙◌, ap}
use Rattle.dated.specs.declared.Dated.{Dated}
use Rattle.words.specs.Words.{words_at}
use Rattle.kept.specs.Words.{head_place, standing_by}
use Rattle.kept.proofs.head_at.Goals as goal

pub returns : goal.returns
returns c =
    let w = c.args.w.now in
    let root = ap (λ (x : Dated). standing_by x.settings (words_at w head_place)) c.get-x.ensures in
    λ i. record {
      cursor = c.cursor_at-cursor.ensures i;
      standing = (c.standing_at-standing.ensures ∙ root) i;
      dates = record { times = c.times_at-times.ensures i; cleared = c.four_at.ensures i; now = (c.get-x.ensures i).at };
      items = c.word.ensures i;
      frames = c.four_at-2.ensures i;
    }
