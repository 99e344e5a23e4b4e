-- By the test: nothing, or one row.
use mathlib.Core.Path.{◌≡◌, ◌∙◌, ap}
use Prim.Native.Nat.{◌≤◌, ◌<◌}
use native.Mathlib.Omega.{arith}
use lib.ListN.{take}
use lib.Seq.{sets}
use Rattle.octets.specs.Number.{range, number_of}
use Rattle.octets.proofs.Laws.{part_read, part_fits}
use Rattle.values.proofs.Laws.{width_le}
use Rattle.words.specs.Words.{records_in}
use Rattle.link.specs.Link.{Given}
use Rattle.rows.specs.Rows.{row_of}
use Rattle.rows.proofs.Laws.{given_is}
use borrow.Author.Tests.{le-leb, lt-leb}
use Rattle.rows.proofs.put_sample.Goals as goal

pub returns-then-out-lt-WORDS : goal.returns-then-out-lt-WORDS
returns-then-out-lt-WORDS c = simp (lt-leb _ _ c.if-out-lt-WORDS.true)

pub put_row-requires : goal.put_row-requires
put_row-requires c =
    let bits_of : (let w = c.width.result in let a = c.args in
    (c.number.result ≡ number_of a.little (take w a.octets.now)) × (c.number.result < range w)) =
    let width = c.width in
    let a = c.args in
    let narrow : width.result ≤ 8 = rw width.ensures (width_le c.sampling_at-c.result.datatype) in
    (part_read a.little width.result a.octets.now _ narrow c.part-x.ensures c.number.ensures, part_fits a.little width.result a.octets.now _ narrow c.part-x.ensures c.number.ensures) in
    let width = c.width in
    record {
      bits_bound = rw width.ensures at (bits_of).1;
      row_words_in_bounds = omega arith;
    }

pub returns : goal.returns
returns c =
    let bits_of : (let w = c.width.result in let a = c.args in
    (c.number.result ≡ number_of a.little (take w a.octets.now)) × (c.number.result < range w)) =
    let width = c.width in
    let a = c.args in
    let narrow : width.result ≤ 8 = rw width.ensures (width_le c.sampling_at-c.result.datatype) in
    (part_read a.little width.result a.octets.now _ narrow c.part-x.ensures c.number.ensures, part_fits a.little width.result a.octets.now _ narrow c.part-x.ensures c.number.ensures) in
    let a = c.args in
    simp (le-leb _ _ c.if-out-lt-WORDS.false)
    (c.put_row.ensures
    ∙ ap (λ (x : Given). sets a.out.now 0 (row_of x))
    (given_is (records_in a.t.now) a.little a.count a.at a.octets.now c.sampling_at-c.result c.width.result _ _ c.sampling_at-c.ensures c.width.ensures c.saturating_sub.ensures (bits_of).0))
