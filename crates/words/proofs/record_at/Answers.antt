-- Each attribute by itself.
use mathlib.Core.Path.{◌∙◌, ap}
use Rattle.octets.specs.Number.{low_of}
use Rattle.dated.specs.Dated.{noted}
use Rattle.words.proofs.record_at.Goals as goal

pub returns : goal.returns
returns c =
    λ i. noted ((c.four-2.ensures ∙ ap (low_of 4) c.word-5.ensures) i)
    (record {
      block = (c.four.ensures ∙ ap (low_of 4) c.word.ensures) i;
      class = (c.two.ensures ∙ ap (low_of 2) c.word-2.ensures) i;
      lead = (c.two-2.ensures ∙ ap (low_of 2) c.word-3.ensures) i;
      datatype = (c.one.ensures ∙ ap (low_of 1) c.word-4.ensures) i;
      interval = c.scale-interval.ensures i;
      resolution = c.scale-resolution.ensures i;
      offset = c.bits-offset.ensures i;
      null = c.bits-null.ensures i;
    })
