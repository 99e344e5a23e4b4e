-- By the test: nothing is stored, or the numbers of the head, those of the frame and the record, one behind the other.
use mathlib.Core.Path.{◌≡◌, ◌∙◌}
use native.Mathlib.Omega.{arith}
use lib.ListN.{length}
use Rattle.words.specs.Words.{record_numbers}
use Rattle.kept.specs.Words.{head_numbers, waveform_numbers}
use Rattle.kept.proofs.Laws.{keeping_none, keeping_stored}
use borrow.Author.Rules.{rules}
use Rattle.kept.proofs.keep.Goals as goal

pub returns-then-w-lt-HEAD : goal.returns-then-w-lt-HEAD
returns-then-w-lt-HEAD c =
    let a = c.args in
    keeping_none a.w.now a.h a.v (omega arith)

pub returns : goal.returns
returns c =
    let head-long : length c.head_words-numbers.result ≡ head_numbers =
    search rules in
    let frame-long : length c.waveform_words-frame.result ≡ waveform_numbers =
    search rules in
    let record_long : length c.words_of-root.result ≡ record_numbers =
    search rules in
    let first = rw (head-long) at c.store.ensures in
    let second = rw (frame-long) at c.store-2.ensures in
    let third = rw (record_long) at c.store-3.ensures in
    keeping_stored (omega arith) first second third
    c.head_words-numbers.ensures c.waveform_words-frame.ensures (c.words_of-root.ensures ∙ c.note.ensures)
