-- Each number fits where the row is in the table.
use Rattle.maker.proofs.Channels.{numbers_split, row_split, scale_at, settings-made}
use Rattle.maker.specs.Given.{given_at, bit_numbers, scale_in_table, width_given, scale_made}
use Rattle.numbers.specs.Numbers.{attribute_numbers}
use Rattle.settings.specs.Settings.{last_interval_unit, last_resolution_unit}
use Rattle.values.proofs.Laws.{width_le}
use Rattle.values.specs.Sample.{width_of}
use lib.ListN.{get_or}
use native.Mathlib.Omega.{arith}
use native.Mathlib.Nat.{add-zero}
use Prim.Native.Nat.{ℕ, ◌*◌}
use mathlib.Core.Path.{◌≡◌, ap, sym, ◌∙◌}
use borrow.Author.Rules.{rules}
use Rattle.maker.proofs.rows.Row.settings.Goals as goal

pub data_type-datatype-requires : goal.data_type-datatype-requires
data_type-datatype-requires c = (row_split _ c.requires).numbers

pub overflow_cast-width : goal.overflow_cast-width
overflow_cast-width c = record { fits = omega (arith, c.width-width.ensures, width_le c.data_type-datatype.result) }

pub scale-interval-requires : goal.scale-interval-requires
scale-interval-requires c =
    let self = c.args.self in
    (search rules, omega arith, ap (scale_in_table last_interval_unit) (scale_at self.numbers.now (self.index * attribute_numbers) 7) ∙ (row_split _ c.requires).interval)

pub scale-resolution-requires : goal.scale-resolution-requires
scale-resolution-requires c =
    let self = c.args.self in
    (search rules, omega arith, ap (scale_in_table last_resolution_unit) (scale_at self.numbers.now (self.index * attribute_numbers) 10) ∙ (row_split _ c.requires).resolution)

pub null-null-requires : goal.null-null-requires
null-null-requires c = c.width-width.ensures ∙ ap width_of c.data_type-datatype.ensures

pub overflow_cast-result : goal.overflow_cast-result
overflow_cast-result c = record { fits = omega (arith, c.natural.ensures, (numbers_split _ (row_split _ c.requires).numbers).most) }

pub overflow_cast-result-2 : goal.overflow_cast-result-2
overflow_cast-result-2 c = record { fits = omega (arith, c.natural-2.ensures, (numbers_split _ (row_split _ c.requires).numbers).class) }

pub overflow_cast-result-3 : goal.overflow_cast-result-3
overflow_cast-result-3 c = record { fits = omega (arith, c.natural-3.ensures, (numbers_split _ (row_split _ c.requires).numbers).lead) }

pub returns : goal.returns
returns c =
    let self = c.args.self in
    let given = given_at self.numbers.now self.bits.now self.index in
    let at = self.index * attribute_numbers in
    let width : c.width-width.result ≡ width_given given = c.width-width.ensures ∙ ap width_of c.data_type-datatype.ensures in
    settings-made given c.natural.ensures c.natural-2.ensures c.natural-3.ensures c.data_type-datatype.ensures
    (c.scale-interval.ensures ∙ ap scale_made (scale_at self.numbers.now at 7)) (c.scale-resolution.ensures ∙ ap scale_made (scale_at self.numbers.now at 10))
    width (ap (λ (k : ℕ). get_or self.bits.now k 0) (sym (add-zero (self.index * bit_numbers)))) c.null-null.ensures
