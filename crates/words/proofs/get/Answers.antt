-- By the test: the record at its place, or zeros.
use mathlib.Core.Path.{◌∙◌, sym}
use native.Mathlib.Omega.{arith}
use Rattle.dated.specs.Dated.{zero_dated}
use Rattle.words.proofs.Laws.{records-at, records-past}
use Rattle.words.proofs.get.Goals as goal

pub returns-then-k-t : goal.returns-then-k-t
returns-then-k-t c =
    c.record_at.ensures ∙ sym (records-at c.args.t.now c.args.k zero_dated (omega arith))

pub returns : goal.returns
returns c =
    c.zeros.ensures ∙ sym (records-past c.args.t.now c.args.k zero_dated (omega arith))
