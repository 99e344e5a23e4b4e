-- By the test: each attribute by itself, or zeros.
use mathlib.Core.Path.{◌∙◌, sym, ap}
use native.Mathlib.Omega.{arith}
use Rattle.octets.specs.Number.{low_of}
use Rattle.dated.specs.declared.Dated.{Dated}
use Rattle.dated.specs.Dated.{zero_dated}
use Rattle.words.specs.declared.Sampling.{Sampling}
use Rattle.words.specs.Words.{sampling_of}
use Rattle.words.proofs.Laws.{records-at, records-past}
use Rattle.words.proofs.sampling_at.Goals as goal

-- The settings of a record that is found.
abbrev sampled : Dated → Sampling
sampled x = sampling_of x.settings

pub returns-then-k-t : goal.returns-then-k-t
returns-then-k-t c =
    let block = c.four.ensures ∙ ap (low_of 4) c.word.ensures in
    let datatype = c.one.ensures ∙ ap (low_of 1) c.word-then-k-t.ensures in
    let null = c.bits-missing.ensures in
    let a = c.args in
    let found = records-at a.t.now a.k zero_dated (omega arith) in
    (λ i. record { block = block i; datatype = datatype i; null = null i }) ∙ sym (ap sampled found)

pub returns : goal.returns
returns c =
    let a = c.args in
    sym (ap sampled (records-past a.t.now a.k zero_dated (omega arith)))
