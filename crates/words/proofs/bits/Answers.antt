-- Each number by itself.
use mathlib.Core.Path.{◌∙◌, ap}
use Rattle.octets.specs.Number.{low_of}
use Rattle.words.proofs.bits.Goals as goal

pub returns : goal.returns
returns c =
    λ i. record { width = (c.one.ensures ∙ ap (low_of 1) c.word.ensures) i; bits = c.word-2.ensures i }
